use Rattle.spec_proof.proofs.Examples.{trims, refutations}
use Rattle.spec_proof.proofs.trim_examples.Goals as goal

pub returns-clause-trims : goal.returns-clause-trims
returns-clause-trims c = trims

pub returns-clause-refutations : goal.returns-clause-refutations
returns-clause-refutations c = refutations
