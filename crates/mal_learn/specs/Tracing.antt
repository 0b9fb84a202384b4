-- The analysis of a false assumption at work.
use Rattle.std.specs.Prelude.{ℕ, List, [], ◌∷◌, ◌++◌, false, slice_index_or, Option, Some, None, replicate, if◌then◌else◌}
use Rattle.mal_base.specs.Literals.{var_of, negated}
use Rattle.mal_base.specs.NumberedClause.{NumberedClause}
use Rattle.mal_base.specs.declared.trail_entry.TrailEntry.{TrailEntry}
use Rattle.mal_learn.specs.Working.{State, resolved}

-- it begins with the negation of the assumption, and with as many flags of both kinds
abbrev pub begun_with : ℕ → ℕ → ℕ → State
begun_with seen here l = record { seen = replicate seen false; here = replicate here false; left = 0; lits = l ∷ []; hints = []; level = 0 }

-- a decision stays, and any other entry is resolved away
abbrev pub by_cause : List NumberedClause → TrailEntry → State → Option ℕ → State
by_cause clauses e s None = record s { lits = s.lits ++ negated e.lit ∷ [] }
by_cause clauses e s (Some r) = resolved clauses r s

-- an entry that is not seen is passed over
abbrev pub traced : List NumberedClause → TrailEntry → State → State
traced clauses e s = if slice_index_or s.seen (var_of e.lit) false then by_cause clauses e s e.reason else s

-- entries, latest first
abbrev pub traced_all : List NumberedClause → List TrailEntry → State → State
traced_all clauses [] s = s
traced_all clauses (e ∷ past) s = traced_all clauses past (traced clauses e s)

-- the entries before one, from its reason on
abbrev pub traced_after : List NumberedClause → List TrailEntry → State → Option ℕ → State
traced_after clauses past s None = s
traced_after clauses past s (Some r) = traced_all clauses past (resolved clauses r s)

-- from an entry on, latest first
abbrev pub traced_from : List NumberedClause → List TrailEntry → State → State
traced_from clauses [] s = s
traced_from clauses (e ∷ past) s = traced_after clauses past s e.reason
