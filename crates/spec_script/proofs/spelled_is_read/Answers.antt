use Rattle.spec_script.proofs.spelled_is_read.Goals as goal
use Rattle.spec_script.proofs.Reading.{spelled-read, read-spelled}

pub returns : goal.returns
returns c = λ limits text s. (spelled-read limits text s, read-spelled limits text s)
