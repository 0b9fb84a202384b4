use Rattle.std.proofs.Common.{◌≡◌, ℕ, ◌||◌, List, take}
use Rattle.mal_filter.specs.Noted.{is_noted}
use Rattle.spec_node.specs.Import.{has_lits}
use Rattle.mal_cdcl.proofs.import_filter.note_entries.Given as goal

abbrev pub invariant-loop-entry : goal.invariant-loop-entry
invariant-loop-entry l = (lits : List ℕ) → is_noted lits l.seen ≡ (has_lits lits (take l.entry-index l.entries) || is_noted lits l.fn.seen)
