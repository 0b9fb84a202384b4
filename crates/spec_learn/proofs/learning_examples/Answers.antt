use Rattle.std.proofs.Common.{refl}
use Rattle.spec_learn.proofs.learning_examples.Goals as goal

pub returns : goal.returns
returns c = record { two_levels_learn = refl; core_of_two = refl; moves = refl }
