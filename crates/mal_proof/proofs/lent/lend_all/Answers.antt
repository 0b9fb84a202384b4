use Rattle.std.proofs.Common.{arith}
use Rattle.mal_proof.proofs.Lending.{lent-next}
use Rattle.mal_proof.proofs.lent.lend_all.Goals as goal

pub loop-n-preserved : goal.loop-n-preserved
loop-n-preserved c =
    lent-next c.args.lines.now.lines c.loop-n.n c.lend.result (omega arith) c.lend.ensures c.args.all.now.items c.loop-n.all.items c.push.new.self.items c.loop-n.invariant c.in_ok-push.ensures.items
