use Rattle.mal_core.proofs.InputLemmas.{spelled_read}
use Rattle.mal_core.proofs.input_laws.spelled_is_read.Goals as goal

pub returns : goal.returns
returns c = spelled_read
