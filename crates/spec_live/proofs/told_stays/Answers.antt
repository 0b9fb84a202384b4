use Rattle.spec_live.proofs.StayLemmas.{told-stays}
use Rattle.spec_live.proofs.told_stays.Goals as goal

pub returns : goal.returns
returns c = told-stays
