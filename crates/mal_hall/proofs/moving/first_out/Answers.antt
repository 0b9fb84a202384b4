use Rattle.std.proofs.Common.{arith, refl, sym, ◌∙◌}
use Rattle.mal_hall.proofs.MovingLemmas.{out-end, out-here, out-later}
use Rattle.mal_hall.proofs.moving.first_out.Goals as goal

pub loop-index-init : goal.loop-index-init
loop-index-init c = refl

pub returns-then-is_out : goal.returns-then-is_out
returns-then-is_out c = sym (out-here c.args.job.now.titled.state c.loop-index.index _ (omega (arith, c.loop-index-test.true)) c.is_out.ensures c.if-is_out.true) ∙ c.loop-index.invariant

pub loop-index-preserved : goal.loop-index-preserved
loop-index-preserved c = out-later c.args.job.now.titled.state c.loop-index.index _ (omega (arith, c.loop-index-test.true)) c.is_out.ensures c.if-is_out.false ∙ c.loop-index.invariant

pub returns : goal.returns
returns c = sym (out-end c.args.job.now.titled.state c.loop-index.index (omega (arith, c.loop-index-test.false))) ∙ c.loop-index.invariant
