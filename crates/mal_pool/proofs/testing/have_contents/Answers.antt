use Rattle.std.proofs.Common.{◌≤◌, List, length, subst, sym}
use Rattle.spec_run.proofs.PostingLemmas.{posting-formed}
use Rattle.spec_script.specs.Script.{revisions_in}
use Rattle.spec_script.specs.declared.step.Step.{Step}
use Rattle.mal_pool.proofs.Agreements.{contents-at, contents-more}
use Rattle.mal_pool.proofs.Stepping.{contents-steps, steps-contents}
use Rattle.mal_pool.proofs.testing.have_contents.Goals as goal

pub has_contents-requires : goal.has_contents-requires
has_contents-requires c = subst (λ (ss : List Step). length (revisions_in ss) ≤ 256) (sym c.steps.ensures) (posting-formed c.args.jobs.now c.loop-job.job-index c.job-item.result c.requires c.loop-job-test.true c.job-item.is).few

pub loop-job-preserved : goal.loop-job-preserved
loop-job-preserved c =
    let here = steps-contents c.args.hall.now.events c.job-item.result c.steps.result.now c.steps.ensures (c.has_contents.ensures.0 c.if-not-has_contents.false) in
    contents-more c.args.hall.now.events c.args.jobs.now c.loop-job.job-index c.job-item.result c.loop-job.invariant here c.loop-job-test.true c.job-item.is

pub returns-then-not-has_contents : goal.returns-then-not-has_contents
returns-then-not-has_contents c = (
  λ e. absurd (cc),
  λ have.
      let here = contents-at c.args.hall.now.events c.args.jobs.now c.loop-job.job-index c.job-item.result have c.loop-job-test.true c.job-item.is in
      let has = c.has_contents.ensures.1 (contents-steps c.args.hall.now.events c.job-item.result c.steps.result.now c.steps.ensures here) in
      absurd (cc),
)
