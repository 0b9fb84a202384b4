-- What the writer of a live service told.
use Rattle.std.specs.Prelude.{◌≡◌, ℕ, ◌+◌, false, List, length, drop, Option, Some, None, IfSome}
use Rattle.std.specs.List.{list_any}
use Rattle.mal_base.specs.declared.key.Key.{Key}
use Rattle.mal_live.specs.Telling.{Tells, TellsInPart, told_at}
use Rattle.mal_live.specs.declared.desk.Seen.{Seen}
use Rattle.mal_live.specs.declared.telling.Teller.{Teller}
use Rattle.mal_parts.specs.declared.writing.Step.{Step}
use Rattle.mal_parts.specs.declared.writing.Step.TheVariants as steps
use Rattle.spec_hall.specs.Events.{Event, moves}
use Rattle.spec_hall.specs.Legal.{Legal}
use Rattle.spec_live.specs.Live.{IsFront, event_lines, reply_in, to}

-- a history was told whole, by a teller, or in part, where a sink failed
abbrev pub ToldSo : ℕ → List Event → Option Teller → Option (List ℕ) → Option (List ℕ) → Option (List ℕ) → Option (List ℕ) → Type 0
ToldSo workers past (Some t) log log_now out out_now = Tells workers past t log log_now out out_now
ToldSo workers past None log log_now out out_now = TellsInPart workers past log log_now out out_now

-- a front of the history that a pass has seen was told, in part where a sink failed
abbrev pub HasTold : ℕ → List Event → Option Teller → Option (List ℕ) → Option (List ℕ) → Option (List ℕ) → Option (List ℕ) → Type 0
HasTold workers seen told log log_now out out_now = (past : List Event) × IsFront past seen × ToldSo workers past told log log_now out out_now

-- who tells after a step: nobody where a sink failed
abbrev pub teller_after : Step → Teller → Option Teller
teller_after steps.More t = Some t
teller_after steps.Nothing t = Some t
teller_after steps.OutOfMemory t = Some t
teller_after steps.Broken t = None

-- what a look shows of a history of which a front was told: the reply that is told next to a job, and the events since
pub record Shows (workers : ℕ) (past history : List Event) (t : Teller) (key : Key) (seen : Seen) : Type 0 where
  pub legal : Legal workers history
  pub stay : list_any moves history ≡ false
  pub front : IsFront past history
  pub reply : IfSome seen.reply (λ text. reply_in history (to key (told_at t key + 1)) ≡ Some text.items)
  pub lines : seen.news.text.items ≡ event_lines (drop (length past) history)
  pub count : seen.news.count ≡ length history
