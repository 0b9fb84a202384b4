use Rattle.spec_learn.proofs.ProfileLemmas.{sound-derived}
use Rattle.spec_learn.proofs.line_is_derived.Goals as goal

pub returns : goal.returns
returns c = sound-derived
