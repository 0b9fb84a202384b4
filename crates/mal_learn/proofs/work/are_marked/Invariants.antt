use Rattle.std.proofs.Common.{◌≡◌, drop}
use Rattle.mal_learn.specs.Shortening.{covers}
use Rattle.mal_learn.proofs.work.are_marked.Given as goal

abbrev pub invariant-loop-lit : goal.invariant-loop-lit
invariant-loop-lit l = covers l.seen l.base (drop l.lit-index l.lits) ≡ covers l.seen l.base l.lits
