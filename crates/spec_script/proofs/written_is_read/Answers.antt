use Rattle.spec_script.proofs.written_is_read.Goals as goal
use Rattle.spec_script.proofs.Again.{written-read}

pub returns : goal.returns
returns c = written-read
