use Rattle.spec_learn.proofs.ProfileLemmas.{learned-sound}
use Rattle.spec_learn.proofs.learning_keeps_sound.Goals as goal

pub returns : goal.returns
returns c = learned-sound
