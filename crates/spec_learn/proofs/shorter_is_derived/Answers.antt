use Rattle.spec_learn.proofs.ShorterLemmas.{shorter-derived, shorter-lesson, shorter-jumps, shorter-empty}
use Rattle.spec_learn.proofs.HintLemmas.{shorter-hints}
use Rattle.spec_learn.proofs.shorter_is_derived.Goals as goal

pub returns : goal.returns
returns c = record { derived = shorter-derived; lesson = shorter-lesson; jumps = shorter-jumps; empty = shorter-empty; differ = shorter-hints }
