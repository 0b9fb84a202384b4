use Rattle.std.proofs.Common.{refl}
use Rattle.spec_seq.specs.Luby.{luby}
use Rattle.spec_learn.specs.Learning.{analysed_in}
use Rattle.mal_node_tests.proofs.tests.cdcl_import.imports_are_known.Goals as goal

pub returns : goal.returns
unfolding luby analysed_in
returns c = record { held = refl; serial = refl; line = refl }
