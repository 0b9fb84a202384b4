use Rattle.spec_logic.proofs.DerivationLemmas.{derived-entailed, derived-satisfied}
use Rattle.spec_logic.proofs.derived_is_entailed.Goals as goal

pub returns-clause-entailed : goal.returns-clause-entailed
returns-clause-entailed c = derived-entailed

pub returns-clause-satisfied : goal.returns-clause-satisfied
returns-clause-satisfied c = derived-satisfied
