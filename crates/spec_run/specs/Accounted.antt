-- The events that a history writes down, with the revisions of a script.
use Rattle.std.specs.Prelude.{◌≡◌, ℕ, zero, suc, List, map, find, slice_get, Option, Some, None}
use Rattle.std.specs.Option.{option_map_or}
use Rattle.mal_revision.specs.Posted.{Posted}
use Rattle.mal_history.specs.declared.event.Event as written
use Rattle.mal_history.specs.declared.event.Event.TheVariants as of
use Rattle.spec_job.specs.KeyedJob.{Key}
use Rattle.spec_hall.specs.Dressed.{keyed}
use Rattle.spec_hall.specs.Events.{Event}
use Rattle.spec_hall.specs.Given.{given}
use Rattle.spec_hall.specs.Own.{is_key}
use Rattle.spec_run.specs.Complete.{key_of_job}
use Rattle.spec_script.specs.Script.{ScriptedJob, Scripted, revisions}

-- the revision of this number, counted from 1
abbrev pub numbered : ℕ → List Posted → Option Posted
numbered zero rs = None
numbered (suc n) rs = slice_get rs n

-- the job of a script under a key
abbrev pub job_under : Key → List ScriptedJob → Option ScriptedJob
job_under k jobs = find (λ j. is_key k (key_of_job j)) jobs

-- the revision of this number that a script has for the job of a key
abbrev pub revision_in : Scripted → Key → ℕ → Option Posted
revision_in s k number = option_map_or (λ j. numbered number (revisions j)) (job_under k s.jobs) None

-- what a script posts in an event that is written down
abbrev pub posted_in : Scripted → written.Event → Option Posted
posted_in s (of.Open tenant job ask) = None
posted_in s (of.Revise tenant job number) = revision_in s (keyed tenant job) number
posted_in s (of.Reask tenant job weight) = None
posted_in s (of.Close tenant job) = None
posted_in s (of.Balance volumes) = None
posted_in s (of.Start tenant job index worker) = None
posted_in s (of.Finish tenant job index worker outcome) = None
posted_in s (of.Exchange tenant job) = None
posted_in s (of.Leave tenant job) = None
posted_in s (of.Arrive tenant job) = None

-- the event that is written down, a Revise with the script's revision: none where the script lacks that revision, or a
-- job moves
abbrev pub event_by : Scripted → written.Event → Option Event
event_by s e = given (posted_in s e) e

-- what is written down are these events, each Revise with the script's revision
abbrev pub AreWritten : Scripted → List written.Event → List Event → Type 0
AreWritten s lines events = map (event_by s) lines ≡ map Some events
