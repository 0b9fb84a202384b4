use Rattle.spec_job.proofs.CountingLemmas.{replays-count}
use Rattle.spec_job.proofs.replays_count.Goals as goal

pub returns : goal.returns
returns c = replays-count
