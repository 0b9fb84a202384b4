use Rattle.std.proofs.Common.{◌≡◌, ◌+◌, ◌≤◌, length, map}
use Rattle.spec_dimacs.specs.Rows.{rows_of}
use Rattle.spec_dimacs.specs.Reading.{read_rows}
use Rattle.mal_instance.specs.Rows.{formula_rows, formula_of, rows_after}
use Rattle.mal_instance.proofs.formula.read_formula.Given as goal

abbrev pub invariant-loop-row : goal.invariant-loop-row
invariant-loop-row l =
    (read_rows (formula_rows (map (λ w. w.now) l.fn.words) (rows_of l.rest)) l.line l.reader ≡ formula_of (map (λ w. w.now) l.fn.words) (rows_of l.fn.text))
    × (rows_after (map (λ w. w.now) l.fn.words) (rows_of l.rest) ≡ rows_after (map (λ w. w.now) l.fn.words) (rows_of l.fn.text))
    × (l.line + length (formula_rows (map (λ w. w.now) l.fn.words) (rows_of l.rest)) ≡ length (formula_rows (map (λ w. w.now) l.fn.words) (rows_of l.fn.text)))
    × (l.line + length l.rest ≤ length l.fn.text)

abbrev pub decreases-loop-row : goal.decreases-loop-row
decreases-loop-row l = length l.rest
