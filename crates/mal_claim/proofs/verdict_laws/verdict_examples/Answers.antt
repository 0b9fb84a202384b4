use Rattle.mal_claim.proofs.VerdictExampleLemmas.{spelled, verdicts}
use Rattle.mal_claim.proofs.verdict_laws.verdict_examples.Goals as goal

pub returns : goal.returns
returns c = record { verdicts = verdicts; spelled = spelled }
