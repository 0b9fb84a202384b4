use Rattle.std.proofs.Common.{◌≡◌, ◌+◌, drop}
use Rattle.mal_cdcl.specs.ImportSizes.{lits_in}
use Rattle.mal_cdcl.proofs.copies.count_held.Given as goal

abbrev pub invariant-loop-held : goal.invariant-loop-held
invariant-loop-held l = l.count + lits_in (drop l.held-index l.clauses) ≡ lits_in l.clauses
