-- A history that is replayed event by event, and its replies.
use Rattle.std.specs.Prelude.{◌≡◌, ℕ, List, take}
use Rattle.mal_hall.specs.Applied.{IsInside}
use Rattle.mal_hall.specs.HallView.{HallView}
use Rattle.mal_history.specs.Written.{Written}
use Rattle.mal_history.specs.declared.event.Event as written
use Rattle.spec_job.specs.KeyedJob.{Key}
use Rattle.spec_hall.specs.Own.{own}
use Rattle.spec_run.specs.Accounted.{AreWritten}
use Rattle.spec_run.specs.Replayed.{IsReplied}
use Rattle.spec_run.specs.Run.{IsEvident}
use Rattle.spec_script.specs.Script.{Scripted}

-- the replies to a script of which these lines are a legal and complete history: the answers of each job are evidence
pub record AreReplies (workers : ℕ) (s : Scripted) (lines : List written.Event) (text : List ℕ) : Type 0 where
  pub replied : IsReplied workers s lines text
  pub evident : (k : Key) → IsEvident (own k replied.events)

-- a hall has entered the first events of a history, each Revise with the script's revision, and has each lease inside
pub record HasReplayed (s : Scripted) (h : Written) (n : ℕ) (hall : HallView) : Type 0 where
  pub workers : hall.workers ≡ h.workers
  pub events : AreWritten s (take n h.events) hall.events
  pub inside : IsInside hall
