use Rattle.spec_job.proofs.UpToExampleLemmas.{up-to}
use Rattle.spec_job.proofs.UpToLemmas.{singles-agree_up_to}
use Rattle.spec_job.proofs.singles_agree_up_to.Goals as goal

pub returns : goal.returns
returns c = record { agree = singles-agree_up_to; example = up-to }
