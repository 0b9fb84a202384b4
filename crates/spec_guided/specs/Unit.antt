-- Unit clauses: at level 0 each literal gets a reason that is it alone.
use Rattle.std.specs.Prelude.{ℕ, ◌+◌, Bool, false, not, ◌==◌, nat_le, List, [], ◌∷◌, ◌++◌, length, map, filter, find, flat_map, take_while, Option, Some, None, if◌then◌else◌}
use Rattle.std.specs.Option.{option_map_or, option_to_list}
use Rattle.mal_base.specs.Literals.{var_of}
use Rattle.mal_base.specs.NumberedClause.{NumberedClause, Line}
use Rattle.mal_base.specs.declared.trail_entry.TrailEntry.{TrailEntry}
use Rattle.spec_node.specs.State.{Node}
use Rattle.spec_node.specs.Value.{level_of}
use Rattle.spec_node.specs.Adding.{with_clause}
use Rattle.spec_learn.specs.Analysis.{has_var, vars_under}
use Rattle.spec_learn.specs.Learning.{derived_id}
use Rattle.spec_guided.specs.State.{Guided}
use Rattle.spec_guided.specs.Glue.{lits_of}
use Rattle.spec_guided.specs.Learning.{keeping_next}

-- an entry was forced by a clause of two literals or more
abbrev pub is_forced_by_long : List NumberedClause → TrailEntry → Bool
is_forced_by_long clauses e = option_map_or (λ r. nat_le 2 (length (lits_of clauses r))) e.reason false

-- the entry whose literal is derived next as a clause: the first of level 0 that has such a reason
abbrev pub next_unit : Node → Option TrailEntry
next_unit n = if level_of n.trail == 0 then find (is_forced_by_long n.clauses) n.trail else None

-- the reasons of the other literals of a reason, in the order of the trail
abbrev pub others_reasons : Node → TrailEntry → ℕ → List ℕ
others_reasons n e r = flat_map (λ o. option_to_list o.reason) (filter (λ o. has_var (vars_under n.clauses r) (var_of o.lit)) (take_while (λ o. not (o.lit == e.lit)) n.trail))

-- what derives an entry's literal: these, and then its reason
abbrev pub unit_hints : Node → TrailEntry → List ℕ
unit_hints n e = option_map_or (λ r. others_reasons n e r ++ r ∷ []) e.reason []

abbrev pub unit_line : Node → TrailEntry → Line
unit_line n e = record { id = derived_id n; lits = e.lit ∷ []; hints = unit_hints n e }

-- an entry with this reason
abbrev pub reasoned : ℕ → TrailEntry → TrailEntry
reasoned id e = record e { reason = Some id }

-- a trail on which the entry of a literal has this reason
abbrev pub with_reason : ℕ → ℕ → List TrailEntry → List TrailEntry
with_reason l id trail = map (λ e. if e.lit == l then reasoned id e else e) trail

-- a node that holds the literal of an entry as a clause, which is its reason
abbrev pub united_node : TrailEntry → Node → Node
united_node e n = record n { trail = with_reason e.lit (derived_id n) n.trail; clauses = with_clause (record { id = derived_id n; lits = e.lit ∷ [] }) n.clauses; serial = n.serial + 1 }

-- a guided node after deriving that clause, which is kept for good
abbrev pub united : TrailEntry → Guided → Guided
united e s = record { node = united_node e s.node; guide = keeping_next s.node s.guide }
