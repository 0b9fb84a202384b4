use Rattle.std.proofs.Common.{refl}
use Rattle.mal_node_tests.proofs.tests.way.ways_are_known.Goals as goal

pub returns : goal.returns
returns c = record { not_decision = refl; not_decision_seen = refl; joined = refl; joined_seen = refl }
