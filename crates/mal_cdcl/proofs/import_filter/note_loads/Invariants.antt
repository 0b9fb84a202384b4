use Rattle.std.proofs.Common.{◌≡◌, ℕ, true, ◌||◌, List, take}
use Rattle.mal_filter.specs.Noted.{is_noted}
use Rattle.mal_cdcl.specs.Ready.{posted}
use Rattle.mal_cdcl.specs.Importing.{is_loaded_in}
use Rattle.mal_cdcl.proofs.import_filter.note_loads.Given as goal

abbrev pub invariant-loop-load : goal.invariant-loop-load
invariant-loop-load l = (lits : List ℕ) → is_noted lits l.exported ≡ true → is_noted lits l.seen ≡ (is_loaded_in lits (posted (take l.load-index l.loads)) || is_noted lits l.fn.seen)
