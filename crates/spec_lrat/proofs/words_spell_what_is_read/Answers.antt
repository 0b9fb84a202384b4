use Rattle.spec_lrat.proofs.SpelledLemmas.{spells-read}
use Rattle.spec_lrat.proofs.words_spell_what_is_read.Goals as goal

pub returns : goal.returns
returns c = spells-read
