use Rattle.std.proofs.Common.{arith}
use Rattle.spec_script.proofs.GeneratedFormed.{left-begin, left-step}
use Rattle.spec_script.proofs.GeneratedSteps.{after-begin, after-literals-end, after-step, literals-begin, literals-end, literals-step}
use Rattle.mal_script.proofs.generating.literals.Goals as goal

pub loop-made-init : goal.loop-made-init
loop-made-init c = record {
  made = literals-begin _ _ c.args.count c.args.draws.now c.new-lits.ensures.items c.in_ok-left.ensures;
  state = after-begin c.args.count c.args.draws.now;
  left = left-begin _ c.in_ok-left.ensures;
}

pub loop-made-preserved : goal.loop-made-preserved
loop-made-preserved c = record {
  made = literals-step _ _ _ _ _ c.args.count c.loop-made.made c.loop-made.draws _ _ (omega (arith, c.loop-made-test.true)) c.in_ok-push.ensures.items c.literal.ensures.value c.literal.ensures.left c.literal.ensures.state c.loop-made.invariant.made;
  state = after-step c.args.count c.loop-made.made c.loop-made.draws _ _ (omega (arith, c.loop-made-test.true)) c.literal.ensures.state c.loop-made.invariant.state;
  left = left-step _ _ c.loop-made.made c.loop-made.draws (omega (arith, c.loop-made-test.true, c.loop-made.invariant.left, c.requires)) c.literal.ensures.left c.loop-made.invariant.left;
}

pub returns-clause-value : goal.returns-clause-value
returns-clause-value c = literals-end _ _ _ c.args.count c.loop-made.made c.loop-made.draws (omega (arith, c.loop-made-test.false)) c.loop-made.invariant.made

pub returns-clause-state : goal.returns-clause-state
returns-clause-state c = after-literals-end c.args.count c.loop-made.made c.loop-made.draws _ (omega (arith, c.loop-made-test.false)) c.loop-made.invariant.state
