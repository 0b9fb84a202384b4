use Rattle.mal_claim.proofs.FirstLemmas.{opening_fault_is_first, proof_fault_is_first}
use Rattle.mal_claim.proofs.claim_laws.nothing_behind_counts.Goals as goal

pub returns-clause-opening : goal.returns-clause-opening
returns-clause-opening c = opening_fault_is_first

pub returns-clause-proof : goal.returns-clause-proof
returns-clause-proof c = proof_fault_is_first
