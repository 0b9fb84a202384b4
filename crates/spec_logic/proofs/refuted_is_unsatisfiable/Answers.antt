use Rattle.spec_logic.proofs.RefutationLemmas.{refuted-unsatisfiable}
use Rattle.spec_logic.proofs.refuted_is_unsatisfiable.Goals as goal

pub returns : goal.returns
returns c = refuted-unsatisfiable
