use Rattle.std.proofs.Common.{◌≡◌, drop}
use Rattle.mal_freeze.specs.Imaged.{numbers_rise}
use Rattle.mal_freeze.proofs.scan.numbers_rise.Given as goal

abbrev pub invariant-loop-held : goal.invariant-loop-held
invariant-loop-held l = numbers_rise l.last (drop l.held-index l.clauses) ≡ numbers_rise 0 l.clauses
