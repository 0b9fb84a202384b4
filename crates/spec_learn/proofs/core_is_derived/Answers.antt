use Rattle.spec_learn.proofs.CoreLemmas.{core-derived}
use Rattle.spec_learn.proofs.core_is_derived.Goals as goal

pub returns : goal.returns
returns c = core-derived
