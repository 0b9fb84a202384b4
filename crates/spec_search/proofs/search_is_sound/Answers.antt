use Rattle.spec_search.proofs.SoundLemmas.{step-sound, slice-sound}
use Rattle.spec_search.proofs.search_is_sound.Goals as goal

pub returns : goal.returns
returns c = record { step = step-sound; slice = slice-sound }
