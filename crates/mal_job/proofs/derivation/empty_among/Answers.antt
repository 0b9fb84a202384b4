use Rattle.std.proofs.Common.{arith, sym}
use Rattle.std.proofs.lemmas.Bool.{eqb-true, eqb-false}
use Rattle.mal_job.proofs.LogLemmas.{empty-here, empty-later}
use Rattle.mal_job.proofs.derivation.empty_among.Goals as goal

pub returns-then-is_empty : goal.returns-then-is_empty
returns-then-is_empty c = empty-here c.args.lines.now.lines c.loop-n.n c.id.result c.lits.result.now (omega arith) c.id.ensures c.lits.ensures (eqb-true _ 0 (sym c.if-is_empty.ensures)) c.loop-n.invariant

pub loop-n-preserved : goal.loop-n-preserved
loop-n-preserved c = empty-later c.args.lines.now.lines c.loop-n.n c.lits.result.now (omega arith) c.lits.ensures (eqb-false _ 0 (sym c.if-is_empty.ensures)) c.loop-n.invariant
