use Rattle.spec_script.proofs.spelled_is_script.Goals as goal
use Rattle.spec_script.proofs.Formed.{spelled-script}

pub returns : goal.returns
returns c = spelled-script
