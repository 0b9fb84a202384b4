use Rattle.spec_script.proofs.spelled_again.Goals as goal
use Rattle.spec_script.proofs.Formed.{spelled-again}

pub returns : goal.returns
returns c = spelled-again
