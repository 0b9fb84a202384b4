use Rattle.std.specs.Prelude.{◌≡◌, ◌⊎◌, ℕ, Bool, true, false, ◌&&◌, not, List, [], ◌∷◌, ◌++◌, flat_map, Some, None}
use Rattle.std.specs.List.{list_all}
use Rattle.mal_base.specs.declared.verdict.Outcome.{Outcome}
use Rattle.mal_base.specs.declared.verdict.Outcome.TheVariants.{Ran, Starved, Lost}
use Rattle.mal_history.specs.declared.event.Share.{Share}
use Rattle.spec_job.specs.SoloMachine.{is_live}
use Rattle.spec_job.specs.KeyedJob.{Key, KeyedJob}
use Rattle.spec_hall.specs.Events.{Event, Balance, Start, Finish, Exchange}
use Rattle.spec_hall.specs.States.{lives, states, balanced, exchange_due, picked}
use Rattle.spec_hall.specs.Legal.{LegalFrom}

-- a turn of a hall that is driven by its first worker: a balancing, an exchange of a job, or a start of a node with its
-- end
pub data Turn : Type 0 where
  Balances : List Share → Turn
  Exchanges : Key → Turn
  Slices : Key → ℕ → Outcome → Turn

-- the events of a turn: a slice is a start with its finish after it
abbrev pub events_in : Turn → List Event
events_in (Balances shares) = Balance shares ∷ []
events_in (Exchanges k) = Exchange k ∷ []
events_in (Slices k index outcome) = Start k index 1 ∷ Finish k index 1 outcome ∷ []

-- whether a start was lost
abbrev pub was_lost : Outcome → Bool
was_lost Ran = false
was_lost Starved = false
was_lost Lost = true

-- whether a start ran
abbrev pub did_run : Outcome → Bool
did_run Ran = true
did_run Starved = false
did_run Lost = false

-- whether a turn loses a start
abbrev pub loses : Turn → Bool
loses (Balances shares) = false
loses (Exchanges k) = false
loses (Slices k index outcome) = was_lost outcome

-- whether a turn ran to its end
abbrev pub has_run : Turn → Bool
has_run (Balances shares) = true
has_run (Exchanges k) = true
has_run (Slices k index outcome) = did_run outcome

-- whether every job is closed and answered
abbrev pub is_done : List KeyedJob → Bool
is_done jobs = list_all (λ t. t.state.closed && not (is_live t.state)) jobs

-- turns that a hall of so many workers takes after a past, each allowed and where something is left to do; none loses a
-- start
abbrev pub AreTurns : ℕ → List Event → List Turn → Type 0
AreTurns workers past [] = Unit {0}
AreTurns workers past (t ∷ ts) = (is_done (states past) ≡ false) × (loses t ≡ false) × LegalFrom workers past (events_in t) × AreTurns workers (past ++ events_in t) ts

-- a history has grown from a past by turns alone
pub record GrowsByTurns (workers : ℕ) (past history : List Event) : Type 0 where
  pub turns : List Turn
  pub grown : history ≡ past ++ flat_map events_in turns
  pub allowed : AreTurns workers past turns

-- neither a balancing nor an exchange is due
pub record IsCalm (history : List Event) : Type 0 where
  pub balance : Some (lives (states history)) ≡ balanced history
  pub exchange : exchange_due (states history) ≡ None

-- nothing is due, and no node may start
pub record IsIdle (history : List Event) : Type 0 where
  pub calm : IsCalm history
  pub none : picked (states history) ≡ None

-- nothing is left to do: every job is closed and answered, or nothing is due and no node may start
abbrev pub IsAtEnd : List Event → Type 0
IsAtEnd history = (is_done (states history) ≡ true) ⊎ IsIdle history

-- a history comes of a past by turns until every job is closed and answered
pub record IsDriven (workers : ℕ) (past history : List Event) : Type 0 where
  pub turned : GrowsByTurns workers past history
  pub done : is_done (states history) ≡ true

-- what comes of a past in that way, where every start ran, is decided by the past
abbrev pub DrivenIsDecided : Type 0
DrivenIsDecided =
    (workers : ℕ) (past one other : List Event) (driven : IsDriven workers past one) (led : IsDriven workers past other)
    → list_all has_run driven.turned.turns ≡ true → list_all has_run led.turned.turns ≡ true → one ≡ other
