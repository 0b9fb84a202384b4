use Rattle.std.proofs.Common.{◌≡◌, ◌+◌, drop}
use Rattle.mal_cdcl.specs.ImportSizes.{lits_in}
use Rattle.mal_cdcl.proofs.needs.count_lits.Given as goal

abbrev pub invariant-loop-entry : goal.invariant-loop-entry
invariant-loop-entry l = l.count + lits_in (drop l.entry-index l.entries) ≡ lits_in l.entries
