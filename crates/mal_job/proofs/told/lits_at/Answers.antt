use Rattle.std.proofs.Common.{arith, sym}
use Rattle.std.proofs.lemmas.Bool.{eqb-true, eqb-false}
use Rattle.mal_job.proofs.LogLemmas.{lits-here, lits-later}
use Rattle.mal_job.proofs.told.lits_at.Goals as goal

pub returns-then-eq : goal.returns-then-eq
returns-then-eq c = lits-here c.args.log.now.lines c.loop-n.n c.args.goal c.id.result c.lits.result.now (omega arith) c.id.ensures c.lits.ensures (eqb-true _ _ (sym c.if-eq.ensures)) c.loop-n.invariant

pub loop-n-preserved : goal.loop-n-preserved
loop-n-preserved c = lits-later c.args.log.now.lines c.loop-n.n c.args.goal c.id.result (omega arith) c.id.ensures (eqb-false _ _ (sym c.if-eq.ensures)) c.loop-n.invariant
