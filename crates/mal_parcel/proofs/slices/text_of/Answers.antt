use Rattle.std.proofs.Common.{arith}
use Rattle.mal_parcel.proofs.LineLemmas.{lines-next}
use Rattle.mal_parcel.proofs.slices.text_of.Goals as goal

pub loop-n-preserved : goal.loop-n-preserved
loop-n-preserved c = lines-next c.loop-n.out.items c.put_line.new.out.items c.args.lines.now.lines c.loop-n.n (omega arith) c.loop-n.invariant c.in_ok-put_line.ensures
