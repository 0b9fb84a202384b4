use Rattle.std.specs.Prelude.{ℕ, Bool, false, ◌==◌, nat_lt, List, [], find, not, filter}
use Rattle.std.specs.List.{list_any}
use Rattle.std.specs.Option.{option_map_or}
use Rattle.mal_base.specs.declared.profile.Profile.{Profile}
use Rattle.spec_node.specs.State.{Node, fresh_with}
use Rattle.spec_node.specs.Load.{counted}
use Rattle.spec_learn.specs.Insertion.{put_by}
use Rattle.spec_activity.specs.Activity.{one}
use Rattle.spec_activity.specs.Pace.{Pace, at_first}

-- what is noted of a derived clause that is held, beside its literals: whether it is kept for good, and its activity
pub record Mark : Type 0 where
  pub id : ℕ
  pub kept : Bool
  pub activity : ℕ

-- what guides a search: the score of each variable, by variable; what a variable gains that a conflict meets; the marks
-- of the derived clauses held, by rising number; what a clause gains that a conflict is resolved with; and the pace of
-- restarts and reductions
pub record Guide : Type 0 where
  pub scores : List ℕ
  pub gain : ℕ
  pub marks : List Mark
  pub clause_gain : ℕ
  pub pace : Pace

-- a node with a guide: its decisions go by scores
pub record Guided : Type 0 where
  pub node : Node
  pub guide : Guide

-- a node has no order of its own and counts nothing for it, where a guide does both
abbrev pub unordered : Node → Node
unordered n = record n { conflicts_since_restart = 0; restart_number = 1; conflicts_since_dropping = 0; order = counted 1 n.variables }

-- the guide of a first start
abbrev pub first_guide : Guide
first_guide = record { scores = []; gain = one; marks = []; clause_gain = one; pace = at_first }

-- the guided node of this index and profile at its first start
abbrev pub fresh_guided : ℕ → Profile → Guided
fresh_guided i profile = record { node = fresh_with i profile; guide = first_guide }

-- marks by rising number with one more
abbrev pub with_mark : Mark → List Mark → List Mark
with_mark m marks = put_by (λ a b. nat_lt a.id b.id) m marks

-- marks without those of some numbers
abbrev pub unmarked : List ℕ → List Mark → List Mark
unmarked ids marks = filter (λ m. not (list_any (λ i. i == m.id) ids)) marks

-- whether the clause of a number is kept for good
abbrev pub is_kept : List Mark → ℕ → Bool
is_kept marks id = option_map_or (λ m. m.kept) (find (λ m. m.id == id) marks) false

-- the activity of the clause of a number
abbrev pub activity_under : List Mark → ℕ → ℕ
activity_under marks id = option_map_or (λ m. m.activity) (find (λ m. m.id == id) marks) 0
