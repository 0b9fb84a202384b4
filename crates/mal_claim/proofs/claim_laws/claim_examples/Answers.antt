use Rattle.mal_claim.proofs.ClaimExampleLemmas.{examples}
use Rattle.mal_claim.proofs.claim_laws.claim_examples.Goals as goal

pub returns : goal.returns
returns c = examples
