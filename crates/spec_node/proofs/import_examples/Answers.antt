use Rattle.std.proofs.Common.{refl}
use Rattle.spec_node.proofs.import_examples.Goals as goal

pub returns : goal.returns
returns c = record { exported = refl; serial = refl; next = refl; cut = refl; left = refl; took = refl }
