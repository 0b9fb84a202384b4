use Rattle.spec_logic.proofs.RefutationLemmas.{proof-entailed}
use Rattle.spec_logic.proofs.proof_is_entailed.Goals as goal

pub returns : goal.returns
returns c = proof-entailed
