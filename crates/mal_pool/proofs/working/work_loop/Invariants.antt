use Rattle.std.proofs.Common.{◌-◌, ◌<◌}
use Rattle.mal_pool.specs.Making.{HasMade}
use Rattle.mal_pool.proofs.working.work_loop.Given as goal

abbrev pub invariant-loop-made : goal.invariant-loop-made
invariant-loop-made g l =
    g.D.Desk.is_of l.desk l.pass
    × (l.idles < 1000)
    × HasMade (g.G.Gate.stops l.gate) l.worker l.turns (l.turns - l._made) l.idles (g.D.Desk.calls l.fn.pass) (g.D.Desk.calls l.pass)
