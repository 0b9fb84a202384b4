use Rattle.std.specs.Prelude.{◌≡◌, Bool, true, false, ◌==◌, List, ◌++◌}
use Rattle.std.specs.List.{list_all, list_any}
use Rattle.spec_hall.specs.Driven.{was_lost}
use Rattle.spec_hall.specs.Events.{Event, Start, Finish}

-- whether an event is the loss of a lease
abbrev pub is_loss : Event → Bool
is_loss (Finish k index worker outcome) = was_lost outcome
is_loss event = false

-- no lease was lost
abbrev pub NoneIsLost : List Event → Type 0
NoneIsLost history = list_any is_loss history ≡ false

-- whether an event is no start by another worker than the first
abbrev pub is_not_by_others : Event → Bool
is_not_by_others (Start k index worker) = worker == 1
is_not_by_others event = true

-- where leases are lost, only the first worker starts nodes from the first loss on: in a first part none is lost, and
-- in the rest no other worker starts one
pub record LosesLate (history : List Event) : Type 0 where
  pub before : List Event
  pub after : List Event
  pub parts : history ≡ before ++ after
  pub none : NoneIsLost before
  pub first : list_all is_not_by_others after ≡ true
