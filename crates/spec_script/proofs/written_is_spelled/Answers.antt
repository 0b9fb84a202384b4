use Rattle.spec_script.proofs.written_is_spelled.Goals as goal
use Rattle.spec_script.proofs.Again.{written-spelled}

pub returns : goal.returns
returns c = written-spelled
