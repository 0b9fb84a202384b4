use Rattle.spec_job.proofs.LastingExampleLemmas.{lasting}
use Rattle.spec_job.proofs.LastingLemmas.{replies-stay}
use Rattle.spec_job.proofs.replies_stay.Goals as goal

pub returns : goal.returns
returns c = record { stay = replies-stay; example = lasting }
