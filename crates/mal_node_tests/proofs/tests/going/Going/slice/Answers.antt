use Rattle.std.proofs.Common.{arith}
use Rattle.mal_node_tests.proofs.GoingLemmas.{run-more}
use Rattle.mal_node_tests.proofs.tests.going.Going.slice.Goals as goal

pub invariant_of-self-2 : goal.invariant_of-self-2
invariant_of-self-2 g c = (omega (arith, c.if-self-ge-MOST_SLICES.false), rw (c.take_lines.ensures.state, c.run.ensures.node, c.in_ok-ready.ensures.loaded) (run-more c.self.inside.slices c.self.inside.node.state c.self.invariant.1))
