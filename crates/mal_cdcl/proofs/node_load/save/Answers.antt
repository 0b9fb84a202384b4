use Rattle.std.proofs.Common.{◌∙◌, arith}
use Rattle.mal_cdcl.proofs.FillLemmas.{saved-next}
use Rattle.mal_cdcl.proofs.node_load.save.Goals as goal

pub loop-made-preserved : goal.loop-made-preserved
loop-made-preserved c =
    let inv = c.loop-made.invariant in
    record {
      done = rw c.set_phase.ensures.phases (saved-next c.loop-made.phases c.args.removed.now c.loop-made.made c.index-removed-removed.result (omega arith) ∙ inv.done);
      len = c.set_phase.ensures.len ∙ inv.len;
    }
