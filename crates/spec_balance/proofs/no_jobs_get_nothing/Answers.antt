use Rattle.spec_balance.proofs.Single.{none-fair}
use Rattle.spec_balance.proofs.no_jobs_get_nothing.Goals as goal

pub returns : goal.returns
returns c = none-fair
