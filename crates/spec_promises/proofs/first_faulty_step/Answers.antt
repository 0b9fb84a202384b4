use Rattle.spec_promises.proofs.Examples.{first_steps}
use Rattle.spec_promises.proofs.Steps.{step_fault_is_first}
use Rattle.spec_promises.proofs.first_faulty_step.Goals as goal

pub returns-clause-first : goal.returns-clause-first
returns-clause-first c = step_fault_is_first

pub returns-clause-examples : goal.returns-clause-examples
returns-clause-examples c = first_steps
