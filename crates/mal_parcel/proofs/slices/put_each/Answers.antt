use Rattle.std.proofs.Common.{arith}
use Rattle.mal_parcel.proofs.LineLemmas.{slices-next}
use Rattle.mal_parcel.proofs.slices.put_each.Goals as goal

pub loop-n-preserved : goal.loop-n-preserved
loop-n-preserved c = slices-next c.args.out.now.items c.loop-n.out.items c.put_at.new.out.items c.args.job.now.titled.state.slices c.loop-n.n (omega (arith, c.slice_count-n-end.ensures, c.loop-n-test.true)) c.loop-n.invariant c.in_ok-put_at.ensures
