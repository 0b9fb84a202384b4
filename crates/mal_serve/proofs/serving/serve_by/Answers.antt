use Rattle.std.proofs.Common.{ℕ, sym, subst}
use Rattle.mal_parts.specs.Writing.{HasTold}
use Rattle.mal_serve.proofs.ServeLemmas.{nothing-served, untouched-served}
use Rattle.mal_serve.specs.Serving.{HasServed}
use Rattle.mal_service.specs.Record.{events_of}
use Rattle.mal_turn.specs.Tokens.{view}
use Rattle.mal_serve.proofs.serving.serve_by.Goals as goal

pub returns-in_default-clause-served : goal.returns-in_default-clause-served
returns-in_default-clause-served g c = nothing-served c.args.workers (g.S.Source.left c.args.source.now) (g.L.Sink.got c.args.log.now) (g.K.Sink.got c.args.out.now)

pub returns-in-Ok-run_parts-clause-served : goal.returns-in-Ok-run_parts-clause-served
returns-in-Ok-run_parts-clause-served g c =
    let done = c.in-Ok-run_parts.ensures in
    let ended = c.in-Ok-run_parts.ended in
    subst (λ (w : ℕ). HasServed w (g.S.Source.left c.args.source.now) (g.S.Source.left c.run_parts.new.source) (g.L.Sink.got c.args.log.now) (g.L.Sink.got c.conclude.new.log) (g.K.Sink.got c.args.out.now) (g.K.Sink.got c.conclude.new.out) c.conclude.result) (sym c.requires.size)
    (c.conclude.ensures.served (g.S.Source.left c.args.source.now) (g.S.Source.left c.run_parts.new.source) (g.L.Sink.got c.args.log.now) (g.K.Sink.got c.args.out.now) done.read
    (subst (λ (w : ℕ). HasTold w (events_of (view ended.pass).seen) ended.teller (g.L.Sink.got c.args.log.now) (g.L.Sink.got c.run_parts.new.log) (g.K.Sink.got c.args.out.now) (g.K.Sink.got c.run_parts.new.out)) c.requires.size done.told))

pub returns-in-Err-clause-served : goal.returns-in-Err-clause-served
returns-in-Err-clause-served g c =
    let kept = c.in-Err.ensures.untouched in
    untouched-served c.args.workers _ _ _ _ _ _ kept.0 kept.1 kept.2
