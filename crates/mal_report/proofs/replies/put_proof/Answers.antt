use Rattle.std.proofs.Common.{arith}
use Rattle.mal_report.proofs.Refutations.{rows_next, rows_all}
use Rattle.mal_report.proofs.replies.put_proof.Goals as goal

pub loop-n-preserved : goal.loop-n-preserved
loop-n-preserved c = rows_next c.args.out.now.items c.loop-n.out.items c.put_row.new.out.items c.args.lines.now.lines c.loop-n.n (omega arith) c.loop-n.invariant c.in_ok-put_row.ensures

pub returns : goal.returns
returns c = rows_all c.args.out.now.items c.loop-n.out.items c.args.lines.now.lines c.loop-n.n (omega arith) c.loop-n.invariant
