use Rattle.mal_claim.proofs.VerdictLemmas.{verified-refutation, verified-unsatisfiable}
use Rattle.mal_claim.proofs.verdict_laws.verified_is_refutation.Goals as goal

pub returns-clause-refutation : goal.returns-clause-refutation
returns-clause-refutation c = verified-refutation

pub returns-clause-unsatisfiable : goal.returns-clause-unsatisfiable
returns-clause-unsatisfiable c = verified-unsatisfiable
