use Rattle.std.proofs.Common.{ℕ, arith, subst}
use Rattle.mal_pool.specs.Making.{HasMade}
use Rattle.mal_pool.proofs.Loops.{nothing-made, rested}
use Rattle.mal_pool.proofs.working.work_loop.Goals as goal

pub loop-made-init : goal.loop-made-init
loop-made-init g c = (c.requires.of, omega arith, subst (λ (n : ℕ). HasMade (g.G.Gate.stops c.args.gate.now) c.args.worker c.args.turns n 0 (g.D.Desk.calls c.args.pass) (g.D.Desk.calls c.args.pass)) (omega arith) (nothing-made (g.G.Gate.stops c.args.gate.now) c.args.worker c.args.turns (g.D.Desk.calls c.args.pass)))

pub returns-clause-calls : goal.returns-clause-calls
returns-clause-calls g c = rested _ _ _ _ _ _ _ _ c.loop-made.invariant.2 (omega arith, c.loop-made.invariant.1)
