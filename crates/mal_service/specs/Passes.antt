-- What a call of the service does to a pass.
use Rattle.std.specs.Prelude.{◌≡◌, ℕ, List, ◌++◌}
use Rattle.mal_turn.specs.declared.view.View.{View}
use Rattle.mal_turn.specs.Rule.{Extends, Leaves}
use Rattle.spec_hall.specs.Events.{Event}
use Rattle.mal_service.specs.Record.{Answered, Entry, IsAnswered, IsLegal, StandsFor, entry}

-- A pass made a call that was answered so. It has then seen a legal record, which has all that it had seen as a
-- beginning and ends with this call's entry; of its numbers the record has the entries that it had and this one.
pub record Enters (workers : ℕ) (before : View Entry) (c : Answered) (after : View Entry) : Type 0 where
  pub events : List Event
  pub extends : Extends before (entry c events) after
  pub legal : IsLegal workers after.seen

-- What a closed service leaves: a hall whose history is the events of a legal record, which has all that the pass had
-- seen as a beginning and goes on with entries of other numbers alone. Each entry is of a whole pass's numbers.
abbrev pub LeavesHall : ℕ → List Event → View Entry → Type 0
LeavesHall workers history pass = Leaves (StandsFor workers) history pass

-- a hall was called, has answered so and has entered events, and this is the entry that was noted
pub record HasNoted (workers : ℕ) (past : List Event) (c : Answered) (now : List Event) (noted : Entry) : Type 0 where
  pub events : List Event
  pub grown : now ≡ past ++ events
  pub answered : IsAnswered workers past c events
  pub noted_is : noted ≡ entry c events
