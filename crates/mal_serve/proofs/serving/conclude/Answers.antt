use Rattle.std.proofs.Common.{sym, subst}
use Rattle.mal_serve.proofs.ServeLemmas.{breaks-off, concludes}
use Rattle.mal_serve.specs.Serving.{HasServed}
use Rattle.mal_serve.specs.declared.serving.ServeEnd.{ServeEnd}
use Rattle.mal_turn.specs.Tokens.{view}
use Rattle.mal_serve.proofs.serving.conclude.Goals as goal

pub returns-in-Some-clause-served : goal.returns-in-Some-clause-served
returns-in-Some-clause-served g c = λ left left_now log_first out_first read told.
    subst (λ (end : ServeEnd). HasServed g.Z.Size.workers left left_now log_first (g.L.Sink.got c.finish.new.log) out_first (g.K.Sink.got c.finish.new.out) end) (sym c.ends_with.ensures)
    (concludes g.Z.Size.workers c.in-Ok.hall.events (view c.args.ended.pass) c.requires.whole c.in-Ok.ensures.hall left left_now log_first (g.L.Sink.got c.args.log.now) out_first (g.K.Sink.got c.args.out.now) c.args.ended.end read
    c.in-Ok.hall.workers c.args.ended.teller c.in-Some.teller c.finish.result (g.L.Sink.got c.finish.new.log) (g.K.Sink.got c.finish.new.out) c.in-Ok.ensures.workers c.in-Some.is told c.finish.ensures.finished)

pub returns-clause-served : goal.returns-clause-served
returns-clause-served g c = λ left left_now log_first out_first read told.
    breaks-off g.Z.Size.workers c.in-Ok.hall.events (view c.args.ended.pass) c.requires.whole c.in-Ok.ensures.hall left left_now log_first (g.L.Sink.got c.args.log.now) out_first (g.K.Sink.got c.args.out.now) c.args.ended.end read
    c.args.ended.teller c.in-None.is told
