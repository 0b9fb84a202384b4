-- What is left at the end of a live service: the history goes on by turns, and what was not told is told.
use Rattle.std.specs.Prelude.{◌≡◌, ℕ, ◌+◌, ◌-◌, List, [], length, MatchOption, Option, Some, None, Result, Ok, Err}
use Rattle.std.specs.Io.KnownBytes.{Appends}
use Rattle.mal_base.specs.declared.key.Key.{Key}
use Rattle.mal_history.specs.declared.event.Event as written
use Rattle.mal_history.specs.declared.event.Event.TheVariants as of
use Rattle.mal_live.specs.Telling.{Tells, TellsInPart, told_at}
use Rattle.mal_live.specs.declared.telling.Teller.{Teller}
use Rattle.mal_serve.specs.declared.finishing.Finished.{Finished}
use Rattle.mal_serve.specs.declared.finishing.Finished.TheVariants.{Whole, Broken, OutOfMemory}
use Rattle.spec_hall.specs.Driven.{GrowsByTurns}
use Rattle.spec_hall.specs.Events.{Event}
use Rattle.spec_hall.specs.Own.{own}
use Rattle.spec_hall.specs.States.{lives, states}
use Rattle.spec_job.specs.SoloMachine.{solo}
use Rattle.spec_live.specs.Live.{AreAllTold, Told, live_text, reply_in, to, told_text}

-- a history grew by turns until every revision was answered, and was told whole
pub record IsToldWhole (workers : ℕ) (before : List Event) (log log_now out out_now : Option (List ℕ)) : Type 0 where
  pub now : List Event
  pub told : List Told
  pub turns : GrowsByTurns workers before now
  pub answered : lives (states now) ≡ []
  pub replies : AreAllTold now told
  pub log_text : Appends log log_now (live_text workers now)
  pub out_text : Appends out out_now (told_text now told)

-- it grew by turns and was told in part
pub record IsToldInPart (workers : ℕ) (before : List Event) (log log_now out out_now : Option (List ℕ)) : Type 0 where
  pub now : List Event
  pub turns : GrowsByTurns workers before now
  pub part : TellsInPart workers now log log_now out out_now

-- what came of bringing a history to its end
abbrev pub HasFinished : ℕ → List Event → Option (List ℕ) → Option (List ℕ) → Option (List ℕ) → Option (List ℕ) → Finished → Type 0
HasFinished workers before log log_now out out_now Whole = IsToldWhole workers before log log_now out out_now
HasFinished workers before log log_now out out_now Broken = IsToldInPart workers before log log_now out out_now
HasFinished workers before log log_now out out_now OutOfMemory = IsToldInPart workers before log log_now out out_now

-- a history was told by a teller, or in part where telling came to nothing
abbrev pub TellsSo : {A E : Type 0} → ℕ → List Event → Teller → Option (List ℕ) → Option (List ℕ) → Option (List ℕ) → Option (List ℕ) → Result A E → Type 0
TellsSo workers history t log log_now out out_now (Ok done) = Tells workers history t log log_now out out_now
TellsSo workers history t log log_now out out_now (Err fault) = TellsInPart workers history log log_now out out_now

-- the job that an event opens
abbrev pub opened_by : written.Event → Option Key
opened_by (of.Open tenant job ask) = Some (record { tenant = tenant; job = job })
opened_by event = None

-- no further reply to a job can be told
abbrev pub HasToldAll : List Event → Teller → Key → Type 0
HasToldAll history t k = reply_in history (to k (told_at t k + 1)) ≡ None

-- nor one to the job that an event opens, if it opens one
abbrev pub HasToldOpened : List Event → Teller → written.Event → Type 0
HasToldOpened history t e = MatchOption (opened_by e) (Unit {0}) (HasToldAll history t)

-- how many answers to a job are not told
abbrev pub untold : List Event → Teller → Key → ℕ
untold history t k = length (solo (own k history)).answers - told_at t k
