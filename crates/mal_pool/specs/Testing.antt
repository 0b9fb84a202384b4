use Rattle.std.specs.Prelude.{◌≡◌, ℕ, ◌+◌, ◌<◌, Bool, true, false, List, [], ◌∷◌, length, map, filter, slice_get, Some}
use Rattle.std.specs.List.{list_any}
use Rattle.mal_history.specs.declared.event.Event as written
use Rattle.mal_history.specs.declared.event.Event.TheVariants as of
use Rattle.spec_hall.specs.Driven.{was_lost}
use Rattle.spec_hall.specs.Dressed.{revisions_of}
use Rattle.spec_hall.specs.Events.{Event, bare, moves}
use Rattle.spec_hall.specs.States.{states}
use Rattle.spec_run.specs.PostLines.{HavePosts}
use Rattle.spec_run.specs.Complete.{is_post_of, key_of_job, posts_of}
use Rattle.mal_revision.specs.Posted.{Posted}
use Rattle.spec_script.specs.Script.{ScriptedJob, Scripted, revisions, revisions_at}
use Rattle.spec_script.specs.declared.step.Step.{Step}
use Rattle.spec_script.specs.declared.step.Step.TheVariants.{Revise, Reask}

-- whether an event that is written down is the loss of a lease
abbrev pub is_loss : written.Event → Bool
is_loss (of.Open tenant job ask) = false
is_loss (of.Revise tenant job number) = false
is_loss (of.Reask tenant job weight) = false
is_loss (of.Close tenant job) = false
is_loss (of.Balance volumes) = false
is_loss (of.Start tenant job index worker) = false
is_loss (of.Finish tenant job index worker outcome) = was_lost outcome
is_loss (of.Exchange tenant job) = false
is_loss (of.Leave tenant job) = false
is_loss (of.Arrive tenant job) = false

-- whether an event that is written down is the leave or the arrival of a job
abbrev pub is_move : written.Event → Bool
is_move (of.Leave tenant job) = true
is_move (of.Arrive tenant job) = true
is_move event = false

-- the job of a hall has the revisions of the script's, as far as the script's go
abbrev pub HasContents : List Event → ScriptedJob → Type 0
HasContents history j = (i : ℕ) → i < length (revisions j) → slice_get (revisions_of (key_of_job j) (states history)) i ≡ slice_get (revisions j) i

-- so do the jobs of these
abbrev pub HaveContents : List Event → List ScriptedJob → Type 0
HaveContents history [] = Unit {0}
HaveContents history (j ∷ js) = HasContents history j × HaveContents history js

-- each tenant posted just what the script says, in its order, and no job has left or arrived
pub record HasPosts (s : Scripted) (history : List Event) : Type 0 where
  pub posts : (tenant : List ℕ) → filter (is_post_of tenant) history ≡ posts_of tenant s
  pub stay : list_any moves history ≡ false

-- what is written down of a history's posts is just what the script says, no job has left or arrived, and the jobs have
-- the script's contents
abbrev pub AreThePosts : Scripted → List Event → Type 0
AreThePosts s history = HavePosts s (map bare history) × (list_any moves history ≡ false) × HaveContents history s.jobs

-- these revisions have at a place what a step posts, if it posts one
abbrev pub HasStep : List Posted → ℕ → Step → Type 0
HasStep posted at (Revise r) = slice_get posted at ≡ Some r
HasStep posted at (Reask w) = Unit {0}

-- so they have what steps post, from a place on
abbrev pub HasSteps : List Posted → ℕ → List Step → Type 0
HasSteps posted at [] = Unit {0}
HasSteps posted at (s ∷ ss) = HasStep posted at s × HasSteps posted (at + length (revisions_at s)) ss
