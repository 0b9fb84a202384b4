use Rattle.std.proofs.Common.{refl}
use Rattle.spec_learn.proofs.shorter_examples.Goals as goal

pub returns : goal.returns
returns c = record { longer = refl; shorter = refl; uncovered = refl; by_base = refl }
