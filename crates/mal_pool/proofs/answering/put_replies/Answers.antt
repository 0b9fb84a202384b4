use Rattle.std.proofs.Common.{◌++◌, ◌+◌, refl, ◌∙◌, ap}
use Rattle.spec_job.specs.SoloMachine.{solo}
use Rattle.spec_hall.specs.Own.{own}
use Rattle.spec_run.specs.Complete.{key_of_job}
use Rattle.spec_script.specs.Script.{revisions}
use Rattle.mal_pool.proofs.PoolLemmas.{put-more}
use Rattle.mal_pool.proofs.answering.put_replies.Goals as goal

pub loop-posted-preserved : goal.loop-posted-preserved
loop-posted-preserved c =
    let k = key_of_job c.args.job.now in
    let same = c.as_slice.ensures.value ∙ c.in_ok-reply.ensures in
    put-more k (solo (own k c.args.hall.now.events)) (revisions c.args.job.now) c.loop-posted.posted (c.loop-posted.posted + 1) c.args.text.now.items c.loop-posted.text.items c.extend_from_slice.new.self.items c.loop-posted.invariant (c.in_ok-extend_from_slice.ensures.items ∙ ap (λ x. c.loop-posted.text.items ++ x) same) refl (rw c.revision_count-posted-end.ensures at c.loop-posted-test.true)
