use Rattle.spec_learn.proofs.ProfileLemmas.{sound-asserts, sound-empty}
use Rattle.spec_learn.proofs.learned_asserts.Goals as goal

pub returns : goal.returns
returns c = record { asserts = sound-asserts; empty = sound-empty }
