use Rattle.std.proofs.Common.{take}
use Rattle.mal_watch.specs.Pairs.{IsBest}
use Rattle.mal_watch.proofs.pair.pick.Given as goal

abbrev pub invariant-loop-lit : goal.invariant-loop-lit
invariant-loop-lit l = IsBest l.trail.entries l.count l.lits (take l.lit-index l.lits) l.pair
