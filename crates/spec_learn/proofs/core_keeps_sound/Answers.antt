use Rattle.spec_learn.proofs.CoreSoundLemmas.{cored-sound}
use Rattle.spec_learn.proofs.core_keeps_sound.Goals as goal

pub returns : goal.returns
returns c = cored-sound
