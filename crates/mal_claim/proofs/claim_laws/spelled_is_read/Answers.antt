use Rattle.mal_claim.proofs.ReadLemmas.{spelled-is-read}
use Rattle.mal_claim.proofs.claim_laws.spelled_is_read.Goals as goal

pub returns : goal.returns
returns c = spelled-is-read
