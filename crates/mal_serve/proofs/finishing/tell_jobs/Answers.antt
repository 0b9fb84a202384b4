use Rattle.std.proofs.Common.{◌∙◌, ◌<◌, ◌≤◌, List, length, map, get_or, subst}
use Rattle.std.specs.Prelude.{All}
use Rattle.std.proofs.lemmas.List.{take_all}
use Rattle.std.proofs.lemmas.List.Elements.{All-more}
use Rattle.mal_history.specs.declared.event.Event as written
use Rattle.mal_serve.specs.Finishing.{HasToldOpened}
use Rattle.mal_serve.proofs.Ending.{all-stays}
use Rattle.spec_hall.specs.Events.{bare}
use Rattle.mal_serve.proofs.finishing.tell_jobs.Goals as goal

pub loop-event-preserved : goal.loop-event-preserved
loop-event-preserved g c = record {
  told = λ log_first log_now out_first tells. c.in_ok-tell_opened.ensures.told log_first log_now out_first (c.loop-event.invariant.told log_first log_now out_first tells);
  done =
      let all = c.events-event-items.ensures ∙ c.history.ensures.events in
      let low = subst (λ (es : List written.Event). c.loop-event.event-index < length es) all c.loop-event-test.true in
      let old = all-stays c.args.hall.now.events c.loop-event.teller c.tell_opened.new.teller _ c.in_ok-tell_opened.ensures.more c.loop-event.invariant.done in
      let here = subst (HasToldOpened c.args.hall.now.events c.tell_opened.new.teller) c.event-item.is c.in_ok-tell_opened.ensures.done in
      All-more (HasToldOpened c.args.hall.now.events c.tell_opened.new.teller) (map bare c.args.hall.now.events) c.loop-event.event-index c.event-item.result low old
      (subst (λ (es : List written.Event). HasToldOpened c.args.hall.now.events c.tell_opened.new.teller (get_or es c.loop-event.event-index c.event-item.result)) all here);
  counted = c.in_ok-tell_opened.ensures.counted ∙ c.loop-event.invariant.counted;
}

pub returns-clause-done : goal.returns-clause-done
returns-clause-done g c =
    let all = c.events-event-items.ensures ∙ c.history.ensures.events in
    let end = subst (λ (es : List written.Event). length es ≤ c.loop-event.event-index) all c.loop-event-test.false in
    subst (All (HasToldOpened c.args.hall.now.events c.loop-event.teller)) (take_all c.loop-event.event-index (map bare c.args.hall.now.events) end) c.loop-event.invariant.done
