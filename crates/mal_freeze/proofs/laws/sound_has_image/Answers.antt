use Rattle.mal_freeze.proofs.SoundLemmas.{sound-formed, sound-image}
use Rattle.mal_freeze.proofs.laws.sound_has_image.Goals as goal

pub returns-clause-form : goal.returns-clause-form
returns-clause-form c = sound-formed

pub returns-clause-image : goal.returns-clause-image
returns-clause-image c = sound-image
