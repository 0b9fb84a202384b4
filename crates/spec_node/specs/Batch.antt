use Rattle.std.specs.Prelude.{ℕ, ◌+◌, ◌-◌, Bool, ◌&&◌, ◌==◌, nat_lt, nat_le, List, [], ◌∷◌, ◌++◌, length, take, filter, Option, Some, None, is_some, if◌then◌else◌}
use Rattle.mal_base.specs.declared.trail_entry.TrailEntry.{TrailEntry}
use Rattle.mal_base.specs.NumberedClause.{NumberedClause}
use Rattle.spec_node.specs.State.{Node}
use Rattle.spec_node.specs.Value.{is_true, is_false, level_of, open_count, left_literal}

-- all entries but the last
abbrev pub before_last : List TrailEntry → List TrailEntry
before_last prefix = take (length prefix - 1) prefix

-- a clause is in the batch of a prefix of the trail where its last literal made it unit: one literal is not false
-- under the prefix, and more were before; the batch of the empty prefix has the clauses of at most one literal
abbrev pub is_in_batch : List TrailEntry → NumberedClause → Bool
is_in_batch prefix c = if length prefix == 0 then nat_le (length c.lits) 1 else (open_count prefix c.lits == 1 && nat_lt 1 (open_count (before_last prefix) c.lits))

-- the batch of a prefix, by rising number
abbrev pub batch : List TrailEntry → List NumberedClause → List NumberedClause
batch prefix clauses = filter (is_in_batch prefix) clauses

-- how far a batch was handled: the trail, and the conflict that ended it
pub record Progress : Type 0 where
  pub trail : List TrailEntry
  pub conflict : Option ℕ

-- the literal left of a clause is pushed with it as reason, unless it is true; where it is false the clause is the
-- conflict
abbrev pub after_literal : List TrailEntry → ℕ → ℕ → Progress
after_literal trail id l = if is_true trail l then record { trail = trail; conflict = None } else (if is_false trail l then record { trail = trail; conflict = Some id } else record { trail = trail ++ record { lit = l; reason = Some id; level = level_of trail } ∷ []; conflict = None })

-- a clause without a literal left is the conflict
abbrev pub after_left : List TrailEntry → ℕ → Option ℕ → Progress
after_left trail id None = record { trail = trail; conflict = Some id }
after_left trail id (Some l) = after_literal trail id l

-- a clause of the batch of a prefix, handled on the whole trail
abbrev pub after_clause : List TrailEntry → List TrailEntry → NumberedClause → Progress
after_clause prefix trail c = after_left trail c.id (left_literal prefix c.lits)

-- the clauses of a batch one after another, until one is the conflict
abbrev pub after_all : List TrailEntry → Progress → List NumberedClause → Progress
after_all prefix p [] = p
after_all prefix p (c ∷ cs) = after_all prefix (if is_some p.conflict then p else after_clause prefix p.trail c) cs

-- the batch of the first q trail literals, handled
abbrev pub after_batch : ℕ → List TrailEntry → List NumberedClause → Progress
after_batch q trail clauses = after_all (take q trail) (record { trail = trail; conflict = None }) (batch (take q trail) clauses)

-- a node after its next batch
abbrev pub propagated : Node → Node
propagated n = let p = after_batch n.processed n.trail n.clauses in record n { trail = p.trail; conflict = p.conflict; processed = n.processed + 1 }
