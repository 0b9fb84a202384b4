use Rattle.spec_learn.proofs.ProfileLemmas.{sound-small}
use Rattle.spec_learn.proofs.analysis_is_small.Goals as goal

pub returns : goal.returns
returns c = sound-small
