use Rattle.spec_job.proofs.SingleLemmas.{singles-agree, none-is_due}
use Rattle.spec_job.proofs.singles_agree.Goals as goal

pub returns : goal.returns
returns c = record { agree = singles-agree; alone = none-is_due }
