use Rattle.std.proofs.Common.{arith}
use Rattle.mal_node_tests.proofs.GoingLemmas.{run-image}
use Rattle.mal_node_tests.proofs.tests.going.Going.thawed.Goals as goal

pub image-requires : goal.image-requires
image-requires g c = run-image c.self.inside.slices c.self.inside.node.state (omega (arith, c.self.invariant.0)) c.self.invariant.1
