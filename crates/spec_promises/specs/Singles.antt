-- Jobs that always ask for one worker: their replies do not depend on how many workers there are.
use Rattle.std.specs.Prelude.{◌≡◌, ℕ, true, List, slice_get, Some}
use Rattle.std.specs.List.{list_all}
use Rattle.mal_base.specs.Limits.{limits}
use Rattle.mal_history.specs.declared.event.Event as written
use Rattle.spec_job.specs.Unknown.{is_fed}
use Rattle.spec_hall.specs.Events.{Event}
use Rattle.spec_hall.specs.Own.{own}
use Rattle.spec_script.specs.Formed.{IsScript}
use Rattle.spec_script.specs.Script.{ScriptedJob, Scripted}
use Rattle.spec_run.specs.Complete.{key_of_job}
use Rattle.spec_run.specs.Replayed.{IsReplied}
use Rattle.spec_run.specs.Run.{IsRun, IsFed, job_replies}
use Rattle.spec_cluster.specs.Run.{is_for_one}

-- a job that always asks for one worker gets the same replies in two runs of a script, whatever the numbers of workers,
-- where no start of it ran out of memory: starts of other jobs may, and any start may be lost
abbrev pub SinglesRunAlike : Type 0
SinglesRunAlike =
    (workers others i : ℕ) (s : Scripted) (one other : List Event) (log_one log_other out_one out_other : List ℕ) (j : ScriptedJob)
    → IsScript limits s → IsRun workers s one log_one out_one → IsRun others s other log_other out_other → slice_get s.jobs i ≡ Some j → is_for_one j ≡ true
    → list_all is_fed (own (key_of_job j) one) ≡ true → list_all is_fed (own (key_of_job j) other) ≡ true → job_replies one j ≡ job_replies other j

-- so where all jobs do and no start ran out of memory, two runs have the same output
abbrev pub SingleRunsAreAlike : Type 0
SingleRunsAreAlike =
    (workers others : ℕ) (s : Scripted) (one other : List Event) (log_one log_other out_one out_other : List ℕ)
    → IsScript limits s → IsRun workers s one log_one out_one → IsRun others s other log_other out_other → list_all is_for_one s.jobs ≡ true
    → IsFed one → IsFed other → out_one ≡ out_other

-- and so have two histories that are replayed for the script to their replies, of which one may be that of a run
abbrev pub SingleReplaysAreAlike : Type 0
SingleReplaysAreAlike =
    (workers others : ℕ) (s : Scripted) (lines_one lines_other : List written.Event) (one other : List ℕ)
    → IsScript limits s → (replied : IsReplied workers s lines_one one) (again : IsReplied others s lines_other other) → list_all is_for_one s.jobs ≡ true
    → IsFed replied.events → IsFed again.events → one ≡ other
