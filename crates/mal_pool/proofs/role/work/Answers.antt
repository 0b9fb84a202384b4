use Rattle.std.proofs.Common.{◌-◌, ◌+◌, ◌∙◌, sym, arith, refl}
use Rattle.mal_pool.proofs.Playing.{looped-last, looped-more, looped-out, none-looped, stop-ended}
use Rattle.mal_pool.proofs.role.work.Goals as goal

pub loop-made-init : goal.loop-made-init
loop-made-init g c = (c.requires.of, none-looped (g.G.Gate.stops c.args.gate.now) c.args.number 1048576 33 (33 - 0) (g.B.Desk.calls c.args.pass) (omega arith))

pub returns-then-not-is_idle-clause-calls : goal.returns-then-not-is_idle-clause-calls
returns-then-not-is_idle-clause-calls g c = looped-last (g.G.Gate.stops c.args.gate.now) c.args.number 1048576 33 (33 - c.loop-made._made) (33 - (c.loop-made._made + 1)) _ _ _ c.work_loop-back.result.1 _ (omega arith) c.loop-made.invariant.1 c.work_loop-back.ensures.calls (sym c.is_idle.ensures ∙ c.if-not-is_idle.true) c.is_stop.ensures

pub returns-then-not-is_idle-clause-stopped : goal.returns-then-not-is_idle-clause-stopped
returns-then-not-is_idle-clause-stopped g c = λ stopped. c.work_loop-back.ensures.stopped (stop-ended c.work_loop-back.result.1 (sym c.is_stop.ensures ∙ stopped))

pub loop-made-preserved : goal.loop-made-preserved
loop-made-preserved g c = (c.work_loop-back.ensures.of, looped-more (g.G.Gate.stops c.args.gate.now) c.args.number 1048576 33 (33 - c.loop-made._made) (33 - (c.loop-made._made + 1)) _ _ _ c.work_loop-back.result.1 (omega arith) c.loop-made.invariant.1 c.work_loop-back.ensures.calls (sym c.is_idle.ensures ∙ c.if-not-is_idle.false))

pub returns-clause-calls : goal.returns-clause-calls
returns-clause-calls g c = looped-out (g.G.Gate.stops c.args.gate.now) c.args.number 1048576 33 (33 - c.loop-made._made) _ _ _ (omega arith) c.loop-made.invariant.1 refl
