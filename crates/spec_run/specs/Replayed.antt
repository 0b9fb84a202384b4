-- What is answered to a history that is replayed for a script.
use Rattle.std.specs.Prelude.{◌≡◌, ℕ, List, slice_get, take, Some, Result, Ok, Err}
use Rattle.mal_history.specs.declared.event.Event as written
use Rattle.spec_hall.specs.Events.{Event}
use Rattle.spec_hall.specs.Legal.{Allowed, Legal}
use Rattle.mal_base.specs.declared.replay_fault.ReplayFault.{ReplayFault}
use Rattle.mal_base.specs.declared.replay_fault.ReplayFault.TheVariants.{NotLegal, NotComplete, OutOfMemory}
use Rattle.spec_run.specs.Accounted.{AreWritten, event_by}
use Rattle.spec_run.specs.Complete.{IsComplete}
use Rattle.spec_run.specs.Run.{replies}
use Rattle.spec_script.specs.Script.{Scripted}

-- what is written down is a legal history: these events, each Revise with the script's revision
pub record IsLegal (workers : ℕ) (s : Scripted) (lines : List written.Event) (events : List Event) : Type 0 where
  pub written : AreWritten s lines events
  pub legal : Legal workers events

-- the event at a place, counted from 0, is the first that is not allowed: those before it are a legal history, and it
-- may not come after them, or the script lacks its revision
pub record IsFirstRefused (workers : ℕ) (s : Scripted) (lines : List written.Event) (n : ℕ) : Type 0 where
  pub past : List Event
  pub before : IsLegal workers s (take n lines) past
  pub line : written.Event
  pub at : slice_get lines n ≡ Some line
  pub refused : (e : Event) → event_by s line ≡ Some e → Allowed workers past e → ⊥

-- a history is legal and complete for a script, and its replies are this text
pub record IsReplied (workers : ℕ) (s : Scripted) (lines : List written.Event) (text : List ℕ) : Type 0 where
  pub events : List Event
  pub legal : IsLegal workers s lines events
  pub complete : IsComplete s events
  pub text_is : text ≡ replies s events

-- a history is legal, and not complete for a script
pub record IsLacking (workers : ℕ) (s : Scripted) (lines : List written.Event) : Type 0 where
  pub events : List Event
  pub legal : IsLegal workers s lines events
  pub lacking : IsComplete s events → ⊥

-- the first event that is not allowed stands on this line of the history's text
pub record IsRefusedAt (workers : ℕ) (s : Scripted) (lines : List written.Event) (line_of : ℕ → ℕ) (line : ℕ) : Type 0 where
  pub place : ℕ
  pub first : IsFirstRefused workers s lines place
  pub line_is : line ≡ line_of place

-- what is answered to a history of so many workers that is replayed for a script: the replies where it is legal and
-- complete, else the line of the first event that is not allowed, or that it is not complete; unless memory runs out
abbrev pub IsReplay : ℕ → Scripted → List written.Event → (ℕ → ℕ) → Result (List ℕ) ReplayFault → Type 0
IsReplay workers s lines line_of (Ok text) = IsReplied workers s lines text
IsReplay workers s lines line_of (Err (NotLegal line)) = IsRefusedAt workers s lines line_of line
IsReplay workers s lines line_of (Err NotComplete) = IsLacking workers s lines
IsReplay workers s lines line_of (Err OutOfMemory) = Unit {0}
