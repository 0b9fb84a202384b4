use Rattle.std.proofs.Common.{◌≡◌, ◌++◌, flat_map, take}
use Rattle.spec_text.specs.Lines.{line_of}
use Rattle.spec_dimacs.specs.Written.{clause_words}
use Rattle.mal_dimacs.proofs.writing.put_clauses.Given as goal

abbrev pub invariant-loop-place : goal.invariant-loop-place
invariant-loop-place l = l.out.items ≡ l.fn.out.items ++ flat_map (λ c. line_of (clause_words c)) (take l.place l.clauses)
