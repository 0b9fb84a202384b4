use Rattle.std.proofs.Common.{arith}
use Rattle.mal_learn.proofs.PackLemmas.{literals-next, hints-next}
use Rattle.mal_learn.proofs.packing.sizes_of.Goals as goal

pub loop-n-preserved : goal.loop-n-preserved
loop-n-preserved c = record {
  literals = literals-next c.args.lines.now.lines c.loop-n.n c.loop-n.literals c.in_ok-literals.literals c.lits.result.now (omega arith) c.lits.ensures c.loop-n.invariant.literals c.in_ok-literals.ensures.sum;
  hints = hints-next c.args.lines.now.lines c.loop-n.n c.loop-n.hints c.in_ok-hints.hints c.hints.result.now (omega arith) c.hints.ensures c.loop-n.invariant.hints c.in_ok-hints.ensures.sum;
}
