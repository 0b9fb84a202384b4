use Rattle.spec_core.proofs.RisingLemmas.{kept-stay-first}
use Rattle.spec_core.proofs.kept_stay_first.Goals as goal

pub returns : goal.returns
returns c = kept-stay-first
