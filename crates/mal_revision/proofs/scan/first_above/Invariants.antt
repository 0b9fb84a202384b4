use Rattle.std.proofs.Common.{◌≡◌, true, take, drop}
use Rattle.std.specs.List.{list_all}
use Rattle.mal_base.specs.Formulas.{is_clause_of}
use Rattle.mal_revision.specs.Refused.{first_above}
use Rattle.mal_revision.proofs.scan.first_above.Given as goal

abbrev pub invariant-loop-place : goal.invariant-loop-place
invariant-loop-place l = record { rest : first_above l.variables (drop l.place l.clauses) ≡ first_above l.variables l.clauses; passed : list_all (is_clause_of l.variables) (take l.place l.clauses) ≡ true }
