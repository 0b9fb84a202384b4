use Rattle.std.proofs.Common.{◌≡◌, drop}
use Rattle.std.specs.List.{list_all}
use Rattle.mal_base.specs.Formulas.{is_clause_of}
use Rattle.mal_base.proofs.formula.are_clauses_of.Given as goal

abbrev pub invariant-loop-place : goal.invariant-loop-place
invariant-loop-place l = list_all (is_clause_of l.variables) (drop l.place l.clauses) ≡ list_all (is_clause_of l.variables) l.clauses
