use Rattle.spec_learn.proofs.GoalLemmas.{number-new, goal-held, others-held}
use Rattle.spec_learn.proofs.goal_is_held.Goals as goal

pub returns : goal.returns
returns c = record { new = number-new; goal = goal-held; others = others-held }
