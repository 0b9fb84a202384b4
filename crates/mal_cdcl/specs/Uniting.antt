-- A node that holds the literal of an entry as a clause of its own.
use Rattle.std.specs.Prelude.{ℕ, ◌+◌, List, [], ◌∷◌, slice_set, Some}
use Rattle.mal_base.specs.NumberedClause.{Line}
use Rattle.mal_base.specs.declared.trail_entry.TrailEntry.{TrailEntry}
use Rattle.spec_node.specs.State.{Node}
use Rattle.spec_node.specs.Adding.{with_clause}
use Rattle.spec_learn.specs.Learning.{derived_id}

-- the clause gets the next number, and becomes the reason of the entry, which stands at this place of the trail
abbrev pub united_at : ℕ → TrailEntry → Node → Node
united_at place e n = record n { trail = slice_set n.trail place (record { lit = e.lit; reason = Some (derived_id n); level = e.level }); clauses = with_clause (record { id = derived_id n; lits = e.lit ∷ [] }) n.clauses; serial = n.serial + 1 }

-- the line that derives it along these hints
abbrev pub line_at : TrailEntry → List ℕ → Node → Line
line_at e hints n = record { id = derived_id n; lits = e.lit ∷ []; hints = hints }
