use Rattle.std.proofs.Common.{◌≡◌, drop}
use Rattle.spec_logic.specs.Logic.{satisfies}
use Rattle.mal_sat.proofs.are_satisfied.Given as goal

abbrev pub invariant-loop-place : goal.invariant-loop-place
invariant-loop-place l = satisfies l.model (drop l.place l.clauses) ≡ satisfies l.model l.clauses
