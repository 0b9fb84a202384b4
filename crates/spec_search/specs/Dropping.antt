-- Dropping: the longer half of the derived clauses that may go is no longer held.
use Rattle.std.specs.Prelude.{ℕ, ◌^◌, Bool, not, ◌&&◌, nat_le, [], ◌∷◌, if◌then◌else◌}
use Rattle.mal_base.specs.Profiles.{policy, is_due}
use Rattle.spec_node.specs.State.{Node}
use Rattle.spec_node.specs.Cut.{cut}
use Rattle.spec_node.specs.Adding.{forgetting}
use Rattle.spec_learn.specs.Dropping.{is_reason, to_drop}

-- whether a dropping is due: where the profile reduces, after so many conflicts that were learned since the last
abbrev pub is_dropping_due : Node → Bool
is_dropping_due n = is_due (policy n.profile).reduction n.conflicts_since_dropping

-- a node after dropping: it goes back to level 0, holds no longer the longer half of what may go there, and counts from
-- 0 again
abbrev pub dropped : Node → Node
dropped n = let c = cut 0 n in record c { clauses = forgetting (to_drop c.trail c.clauses) c.clauses; conflicts_since_dropping = 0 }

-- a node that holds no longer the clause of one number, where it is derived and no entry's reason
abbrev pub given_up : ℕ → Node → Node
given_up id n =
    if nat_le (2 ^ 32) id && not (is_reason n.trail (record { id = id; lits = [] }))
    then record n { clauses = forgetting (id ∷ []) n.clauses } else n
