use Rattle.std.proofs.Common.{◌≡◌, ℕ, ◌||◌, List, take}
use Rattle.mal_filter.specs.Noted.{is_noted}
use Rattle.mal_cdcl.specs.Importing.{lent, is_exported_in}
use Rattle.mal_cdcl.proofs.import_filter.note_exported.Given as goal

abbrev pub invariant-loop-buffer : goal.invariant-loop-buffer
invariant-loop-buffer l = (lits : List ℕ) → is_noted lits l.exported ≡ (is_exported_in lits (lent (take l.buffer-index l.imports)) || is_noted lits l.fn.exported)
