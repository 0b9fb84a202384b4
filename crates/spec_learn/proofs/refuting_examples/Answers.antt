use Rattle.std.proofs.Common.{refl}
use Rattle.spec_learn.proofs.refuting_examples.Goals as goal

pub returns : goal.returns
returns c = record { one_reason = refl; two_reasons = refl; without_level_0 = refl; alone = refl; verdict = refl; held = refl }
