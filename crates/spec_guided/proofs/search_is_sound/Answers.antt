use Rattle.spec_guided.proofs.GuidedLemmas.{step-guided}
use Rattle.spec_guided.proofs.SliceLemmas.{slice-guided}
use Rattle.spec_guided.proofs.search_is_sound.Goals as goal

pub returns : goal.returns
returns c = record { step = step-guided; slice = slice-guided }
