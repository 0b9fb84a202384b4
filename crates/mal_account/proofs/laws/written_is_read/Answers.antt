use Rattle.mal_account.proofs.AgainLemmas.{written-is-read}
use Rattle.mal_account.proofs.laws.written_is_read.Goals as goal

pub returns : goal.returns
returns c = written-is-read
