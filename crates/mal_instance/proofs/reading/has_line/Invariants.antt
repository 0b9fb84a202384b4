use Rattle.std.proofs.Common.{◌≡◌, [], ◌∷◌, length}
use Rattle.std.specs.List.{list_any}
use Rattle.spec_dimacs.specs.Rows.{rows_of}
use Rattle.mal_instance.specs.Rows.{begins}
use Rattle.mal_instance.proofs.reading.has_line.Given as goal

abbrev pub invariant-loop-row : goal.invariant-loop-row
invariant-loop-row l = list_any (begins (l.fn.word ∷ [])) (rows_of l.rest) ≡ list_any (begins (l.fn.word ∷ [])) (rows_of l.fn.text)

abbrev pub decreases-loop-row : goal.decreases-loop-row
decreases-loop-row l = length l.rest
