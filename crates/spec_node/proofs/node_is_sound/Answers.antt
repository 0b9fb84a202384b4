use Rattle.spec_node.proofs.SoundLemmas.{fresh-with_sound, loaded-sound}
use Rattle.spec_node.proofs.node_is_sound.Goals as goal

pub returns : goal.returns
returns c = record { fresh = fresh-with_sound; load = loaded-sound }
