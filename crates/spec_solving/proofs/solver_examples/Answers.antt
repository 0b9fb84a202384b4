use Rattle.spec_solving.proofs.Examples.{dialogue, promises}
use Rattle.spec_solving.proofs.solver_examples.Goals as goal

pub returns-clause-dialogue : goal.returns-clause-dialogue
returns-clause-dialogue c = dialogue

pub returns-clause-promises : goal.returns-clause-promises
returns-clause-promises c = promises
