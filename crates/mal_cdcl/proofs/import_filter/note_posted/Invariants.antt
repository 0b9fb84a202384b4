use Rattle.std.proofs.Common.{◌≡◌, ℕ, true, ◌||◌, List, take}
use Rattle.mal_filter.specs.Noted.{is_noted}
use Rattle.mal_cdcl.specs.Importing.{is_posted_in}
use Rattle.mal_cdcl.proofs.import_filter.note_posted.Given as goal

abbrev pub invariant-loop-place : goal.invariant-loop-place
invariant-loop-place l = (lits : List ℕ) → is_noted lits l.exported ≡ true → is_noted lits l.seen ≡ (is_posted_in lits (take l.place l.clauses) || is_noted lits l.fn.seen)
