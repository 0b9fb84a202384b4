use Rattle.spec_job.proofs.FollowingLemmas.{runnable-journals_follow}
use Rattle.spec_job.proofs.journals_follow.Goals as goal

pub returns : goal.returns
returns c = runnable-journals_follow
