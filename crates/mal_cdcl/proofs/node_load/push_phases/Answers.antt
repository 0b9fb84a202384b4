use Rattle.std.proofs.Common.{◌∙◌, arith}
use Rattle.mal_cdcl.proofs.FillLemmas.{phases-next}
use Rattle.mal_cdcl.proofs.node_load.push_phases.Goals as goal

pub loop-place-preserved : goal.loop-place-preserved
loop-place-preserved c =
    let inv = c.loop-place.invariant in
    record {
      done = rw c.push_reserved.ensures.items (phases-next c.loop-place.phases.items c.args.phase c.args.added c.loop-place._place (omega arith) ∙ inv.done);
      len = omega (arith, c.push_reserved.ensures.len, inv.len);
      capacity = omega (arith, c.push_reserved.ensures.capacity, inv.capacity);
    }
