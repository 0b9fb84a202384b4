use Rattle.std.proofs.Common.{ℕ, [], refl, ◌∙◌, subst}
use Rattle.std.proofs.KnownBytes.{Appends-nil}
use Rattle.mal_live.specs.Telling.{Tells}
use Rattle.mal_live.proofs.ToldLemmas.{tells-nothing, tells-nothing_in_part}
use Rattle.mal_parts.proofs.Tellings.{is-calm, told-by}
use Rattle.mal_parts.proofs.writing.tell_all.Goals as goal

pub returns-in-Err-clause-told : goal.returns-in-Err-clause-told
returns-in-Err-clause-told g c =
    let got = c.write_first_line.ensures.prefix in
    ([], (g.D.LiveDesk.seen c.args.pass, refl), tells-nothing_in_part c.args.workers _ _ _ _ got.0 got.1 (Appends-nil (g.K.Sink.got c.args.out.now)))

pub loop-init : goal.loop-init
loop-init g c =
    let first = tells-nothing c.args.workers c.new.result (g.L.Sink.got c.args.log.now) (g.L.Sink.got c.write_first_line.new.log) (g.K.Sink.got c.args.out.now) (g.K.Sink.got c.args.out.now) c.new.ensures.written c.new.ensures.counts c.in-Ok.ensures.all (Appends-nil (g.K.Sink.got c.args.out.now)) in
    let told = subst (λ (w : ℕ). Tells w [] c.new.result (g.L.Sink.got c.args.log.now) (g.L.Sink.got c.write_first_line.new.log) (g.K.Sink.got c.args.out.now) (g.K.Sink.got c.args.out.now)) c.requires.size first in
    (tt, tt, c.requires.of, refl, refl, ([], (g.D.LiveDesk.seen c.args.pass, refl), told), c.in-Ok.ensures.counted, refl)

pub loop-preserved-in-More : goal.loop-preserved-in-More
loop-preserved-in-More g c =
    let step = c.tell_next-back.ensures in
    let calm = is-calm c.tell_next-back.new.telling.teller _ _ c.in-More.is refl in
    let told = told-by (g.D.LiveDesk.workers c.args.desk.now) _ (g.D.LiveDesk.seen c.tell_next-back.result.0) c.tell_next-back.new.telling.teller _ _ (g.L.Sink.got c.args.log.now) (g.L.Sink.got c.tell_next-back.new.log) (g.K.Sink.got c.args.out.now) (g.K.Sink.got c.tell_next-back.new.out) refl c.in-More.is (c.tell_next-back.ensures.told _ _ c.loop.invariant.5) in
    (tt, tt, step.of, step.numbers ∙ c.loop.invariant.3, step.said ∙ c.loop.invariant.4, told, step.log_counted calm ∙ c.loop.invariant.6, step.out_counted calm ∙ c.loop.invariant.7)

pub loop-preserved-in-Nothing : goal.loop-preserved-in-Nothing
loop-preserved-in-Nothing g c =
    let step = c.tell_next-back.ensures in
    let calm = is-calm c.tell_next-back.new.telling.teller _ _ c.in-Nothing.is refl in
    let told = told-by (g.D.LiveDesk.workers c.args.desk.now) _ (g.D.LiveDesk.seen c.tell_next-back.result.0) c.tell_next-back.new.telling.teller _ _ (g.L.Sink.got c.args.log.now) (g.L.Sink.got c.tell_next-back.new.log) (g.K.Sink.got c.args.out.now) (g.K.Sink.got c.tell_next-back.new.out) refl c.in-Nothing.is (c.tell_next-back.ensures.told _ _ c.loop.invariant.5) in
    (tt, tt, step.of, step.numbers ∙ c.loop.invariant.3, step.said ∙ c.loop.invariant.4, told, step.log_counted calm ∙ c.loop.invariant.6, step.out_counted calm ∙ c.loop.invariant.7)

pub loop-preserved : goal.loop-preserved
loop-preserved g c =
    let step = c.tell_next-back.ensures in
    let calm = is-calm c.tell_next-back.new.telling.teller _ _ c.in-OutOfMemory.is refl in
    let told = told-by (g.D.LiveDesk.workers c.args.desk.now) _ (g.D.LiveDesk.seen c.tell_next-back.result.0) c.tell_next-back.new.telling.teller _ _ (g.L.Sink.got c.args.log.now) (g.L.Sink.got c.tell_next-back.new.log) (g.K.Sink.got c.args.out.now) (g.K.Sink.got c.tell_next-back.new.out) refl c.in-OutOfMemory.is (c.tell_next-back.ensures.told _ _ c.loop.invariant.5) in
    (tt, tt, step.of, step.numbers ∙ c.loop.invariant.3, step.said ∙ c.loop.invariant.4, told, step.log_counted calm ∙ c.loop.invariant.6, step.out_counted calm ∙ c.loop.invariant.7)

pub returns-then-deserted-clause-told : goal.returns-then-deserted-clause-told
returns-then-deserted-clause-told g c = told-by c.args.workers _ (g.D.LiveDesk.seen c.tell_next-back.result.0) c.tell_next-back.new.telling.teller _ _ (g.L.Sink.got c.args.log.now) (g.L.Sink.got c.tell_next-back.new.log) (g.K.Sink.got c.args.out.now) (g.K.Sink.got c.tell_next-back.new.out) c.requires.size c.in-Nothing.is (c.tell_next-back.ensures.told _ _ c.loop.invariant.5)

pub returns-then-deserted-2-clause-told : goal.returns-then-deserted-2-clause-told
returns-then-deserted-2-clause-told g c = told-by c.args.workers _ (g.D.LiveDesk.seen c.tell_next-back.result.0) c.tell_next-back.new.telling.teller _ _ (g.L.Sink.got c.args.log.now) (g.L.Sink.got c.tell_next-back.new.log) (g.K.Sink.got c.args.out.now) (g.K.Sink.got c.tell_next-back.new.out) c.requires.size c.in-OutOfMemory.is (c.tell_next-back.ensures.told _ _ c.loop.invariant.5)

pub returns-in-Broken-clause-told : goal.returns-in-Broken-clause-told
returns-in-Broken-clause-told g c = told-by c.args.workers _ (g.D.LiveDesk.seen c.tell_next-back.result.0) c.tell_next-back.new.telling.teller _ _ (g.L.Sink.got c.args.log.now) (g.L.Sink.got c.tell_next-back.new.log) (g.K.Sink.got c.args.out.now) (g.K.Sink.got c.tell_next-back.new.out) c.requires.size c.in-Broken.is (c.tell_next-back.ensures.told _ _ c.loop.invariant.5)
