use Rattle.spec_learn.proofs.FirstPointLemmas.{first-points, resolves-above_one, way-ends}
use Rattle.spec_learn.proofs.first_implication_point.Goals as goal

pub returns : goal.returns
returns c = record { above_one = resolves-above_one; ends = way-ends; examples = first-points }
