use Rattle.std.proofs.Common.{◌≡◌, ℕ, true, ◌||◌, List, take}
use Rattle.mal_filter.specs.Noted.{is_noted}
use Rattle.spec_node.specs.Import.{has_lits}
use Rattle.mal_cdcl.proofs.import_filter.note_held.Given as goal

abbrev pub invariant-loop-place : goal.invariant-loop-place
invariant-loop-place g l = (lits : List ℕ) → is_noted lits l.exported ≡ true → is_noted lits l.seen ≡ (has_lits lits (take l.place (g.E.ClauseView.clauses l.engine)) || is_noted lits l.fn.seen)
