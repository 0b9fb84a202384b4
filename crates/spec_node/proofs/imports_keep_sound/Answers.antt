use Rattle.spec_node.proofs.ImportLemmas.{import-keeps_sound}
use Rattle.spec_node.proofs.imports_keep_sound.Goals as goal

pub returns : goal.returns
returns c = import-keeps_sound
