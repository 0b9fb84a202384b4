use Rattle.spec_proof.proofs.Reaching.{reached-is, goal-is-last}
use Rattle.spec_proof.proofs.Staying.{goal-stays_last}
use Rattle.spec_proof.proofs.reached_lines_are_needed.Goals as goal

pub returns-clause-reached : goal.returns-clause-reached
returns-clause-reached c = reached-is

pub returns-clause-last : goal.returns-clause-last
returns-clause-last c = goal-is-last

pub returns-clause-stays_last : goal.returns-clause-stays_last
returns-clause-stays_last c = goal-stays_last
