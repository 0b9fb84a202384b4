use Rattle.std.proofs.Common.{ℕ, ◌+◌, ap, length}
use Rattle.mal_pool.proofs.Stepping.{few-more, step-at, steps-more}
use Rattle.mal_pool.proofs.testing.has_contents.Goals as goal
use Rattle.spec_script.specs.Script.{revisions_in}

pub loop-step-preserved : goal.loop-step-preserved
loop-step-preserved c = record {
  has = steps-more _ c.args.steps.now c.loop-step.step-index c.loop-step.at _ c.step-item.result _ c.loop-step-test.true c.step-item.is (ap (λ (n : ℕ). c.loop-step.at + n) c.revisions_of-at.ensures.count) (c.has_step.ensures.0 c.if-not-has_step.false) c.loop-step.invariant.has;
  few = few-more c.args.steps.now c.loop-step.step-index c.loop-step.at _ (length (revisions_in c.args.steps.now)) c.step-item.result c.loop-step-test.true c.step-item.is (ap (λ (n : ℕ). c.loop-step.at + n) c.revisions_of-at.ensures.count) c.loop-step.invariant.few;
}

pub returns-then-not-has_step : goal.returns-then-not-has_step
returns-then-not-has_step c = (
  λ e. absurd (cc),
  λ has.
      let here = c.has_step.ensures.1 (step-at _ c.args.steps.now c.loop-step.step-index c.loop-step.at c.step-item.result c.loop-step-test.true c.step-item.is (c.loop-step.invariant.has.0 has)) in
      absurd (cc),
)
