use Rattle.spec_guided.proofs.GuidedLemmas.{fresh-guided, load-guided, import-guided}
use Rattle.spec_guided.proofs.guided_is_sound.Goals as goal

pub returns : goal.returns
returns c = record { fresh = fresh-guided; load = load-guided; import = import-guided }
