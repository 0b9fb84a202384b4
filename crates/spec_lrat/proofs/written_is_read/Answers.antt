use Rattle.spec_lrat.proofs.WrittenLemmas.{written-read}
use Rattle.spec_lrat.proofs.written_is_read.Goals as goal

pub returns : goal.returns
returns c = written-read
