use Rattle.spec_learn.proofs.RefuteLemmas.{emptied-sound}
use Rattle.spec_learn.proofs.empty_keeps_sound.Goals as goal

pub returns : goal.returns
returns c = emptied-sound
