use Rattle.std.proofs.Common.{◌-◌}
use Rattle.mal_pool.specs.Making.{HasLooped}
use Rattle.mal_pool.proofs.role.work.Given as goal

abbrev pub invariant-loop-made : goal.invariant-loop-made
invariant-loop-made g l =
    g.B.Desk.is_of l.board l.pass
    × HasLooped (g.G.Gate.stops l.gate) l.number 1048576 33 (33 - l._made) (g.B.Desk.calls l.fn.pass) (g.B.Desk.calls l.pass)
