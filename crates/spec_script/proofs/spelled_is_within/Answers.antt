use Rattle.spec_script.proofs.Bounds.{spelled-within}
use Rattle.spec_script.proofs.spelled_is_within.Goals as goal

pub returns : goal.returns
returns c = λ limits text s is. spelled-within limits text s is
