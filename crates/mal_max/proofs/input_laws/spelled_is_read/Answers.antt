use Rattle.mal_max.proofs.InputLemmas.{spelled_read}
use Rattle.mal_max.proofs.input_laws.spelled_is_read.Goals as goal

pub returns : goal.returns
returns c = spelled_read
