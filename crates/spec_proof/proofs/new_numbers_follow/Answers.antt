use Rattle.spec_proof.proofs.Renumbering.{numbers-follow, others-stay}
use Rattle.spec_proof.proofs.new_numbers_follow.Goals as goal

pub returns-clause-numbers : goal.returns-clause-numbers
returns-clause-numbers c = numbers-follow

pub returns-clause-others : goal.returns-clause-others
returns-clause-others c = others-stay
