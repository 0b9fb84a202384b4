use Rattle.std.proofs.Common.{arith}
use Rattle.mal_cdcl.proofs.SourceLemmas.{analysis-room}
use Rattle.mal_node_tests.proofs.tests.going.Going.way.Goals as goal

pub follow-requires : goal.follow-requires
follow-requires g c = rw (c.trail.ensures.entries, c.engine.ensures) (analysis-room 1 c.fit.new.self.room c.self.inside.node.state c.self.invariant.1.sound (omega (arith, c.in_ok-fit-in-Some.ensures.room, c.variables.ensures, c.if-variables-ne3.false)) (omega arith))
