use Rattle.std.proofs.Common.{◌<◌, arith, refl, length, ap}
use Rattle.mal_pool.proofs.PoolLemmas.{replied-all, replied-more}
use Rattle.mal_pool.proofs.answering.put_together.Goals as goal

pub loop-place-preserved : goal.loop-place-preserved
loop-place-preserved c =
    let low : c.loop-place.place < length c.args.script.now.jobs = omega (arith, ap length c.jobs-place-end.ensures.jobs) in
    (replied-more c.args.hall.now.events c.args.script.now.jobs c.loop-place.place c.loop-place.text.items c.put_next.new.text.items c.loop-place.invariant.0 low c.in_ok-put_next.ensures.text, c.put_next.ensures.made)

pub returns : goal.returns
returns c = replied-all c.args.script.now c.args.hall.now.events c.args.script.now.jobs c.loop-place.place c.loop-place.text.items refl c.loop-place.invariant.0 (omega (arith, ap length c.jobs-place-end.ensures.jobs))
