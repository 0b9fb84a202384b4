use Rattle.spec_balance.proofs.Single.{first-fair}
use Rattle.spec_balance.proofs.one_worker_goes_to_the_first.Goals as goal

pub returns : goal.returns
returns c = first-fair
