use Rattle.std.proofs.Common.{◌≡◌, ℕ, List, Some, None, subst}
use Rattle.std.specs.Io.KnownBytes.{Appends}
use Rattle.mal_io.specs.Moves.{GotPrefix}
use Rattle.mal_live.proofs.ToldLemmas.{tells-in_part, tells-reply, tells-reply_in_part}
use Rattle.mal_serve.proofs.Ending.{fewer-untold, found-reply, told-once}
use Rattle.spec_live.specs.Live.{reply_in, to}
use Rattle.mal_serve.proofs.finishing.tell_next.Goals as goal

pub returns-in_default-clause-told : goal.returns-in_default-clause-told
returns-in_default-clause-told g c = λ log_first log_now out_first tells. tells-in_part c.args.hall.now.workers c.args.hall.now.events c.args.teller.now log_first log_now out_first (g.K.Sink.got c.args.out.now) tells

pub returns-clause-told : goal.returns-clause-told
returns-clause-told g c = λ log_first log_now out_first tells. tells-in_part c.args.hall.now.workers c.args.hall.now.events c.args.teller.now log_first log_now out_first (g.K.Sink.got c.args.out.now) tells

pub returns-in-Ok-Some-clause-told : goal.returns-in-Ok-Some-clause-told
returns-in-Ok-Some-clause-told g c = λ log_first log_now out_first tells.
    let e = rw c.in-Ok-Some.field-0-is at c.in-Ok-Some.ensures.reply in
    let reply = subst (λ (r : ℕ). reply_in c.args.hall.now.events (to c.args.key.now r) ≡ Some c.in-Ok-Some.text.items) c.in-Some.ensures (found-reply c.args.hall.now.events c.args.key.now c.in-Some.r e.0 (Some c.in-Ok-Some.text.items) e.1 e.2) in
    let got = subst (λ (text : List ℕ). GotPrefix (g.K.Sink.got c.args.out.now) (g.K.Sink.got c.tell.new.out) text c.tell.ensures.prefix.0) c.deref.ensures.value c.tell.ensures.prefix.1 in
    tells-reply_in_part c.args.hall.now.workers c.args.hall.now.events c.args.teller.now c.args.key.now c.in-Ok-Some.text.items log_first log_now out_first (g.K.Sink.got c.args.out.now) (g.K.Sink.got c.tell.new.out) tells reply c.tell.ensures.prefix.0 got

pub returns-in-Ok-clause-told : goal.returns-in-Ok-clause-told
returns-in-Ok-clause-told g c = λ log_first log_now out_first tells.
    let e = rw c.in-Ok-Some.field-0-is at c.in-Ok-Some.ensures.reply in
    let reply = subst (λ (r : ℕ). reply_in c.args.hall.now.events (to c.args.key.now r) ≡ Some c.in-Ok-Some.text.items) c.in-Some.ensures (found-reply c.args.hall.now.events c.args.key.now c.in-Some.r e.0 (Some c.in-Ok-Some.text.items) e.1 e.2) in
    let gained = subst (λ (text : List ℕ). Appends (g.K.Sink.got c.args.out.now) (g.K.Sink.got c.tell.new.out) text) c.deref.ensures.value c.in-Ok.ensures.all in
    tells-reply c.args.hall.now.workers c.args.hall.now.events c.args.teller.now c.args.key.now c.in-Ok-Some.text.items log_first log_now out_first (g.K.Sink.got c.args.out.now) (g.K.Sink.got c.tell.new.out) tells reply c.tell.new.self gained c.in-Ok.ensures.counts c.tell.ensures.written

pub returns-in-Ok-clause-fewer : goal.returns-in-Ok-clause-fewer
returns-in-Ok-clause-fewer g c = λ _.
    let e = rw c.in-Ok-Some.field-0-is at c.in-Ok-Some.ensures.reply in
    let reply = subst (λ (r : ℕ). reply_in c.args.hall.now.events (to c.args.key.now r) ≡ Some c.in-Ok-Some.text.items) c.in-Some.ensures (found-reply c.args.hall.now.events c.args.key.now c.in-Some.r e.0 (Some c.in-Ok-Some.text.items) e.1 e.2) in
    fewer-untold c.args.hall.now.events c.args.teller.now c.tell.new.self c.args.key.now c.in-Ok-Some.text.items (told-once c.args.teller.now c.tell.new.self c.args.key.now c.in-Ok.ensures.counts) reply

pub returns-in-Ok-None-clause-done : goal.returns-in-Ok-None-clause-done
returns-in-Ok-None-clause-done g c = λ _.
    let e = rw c.in-Ok-None.field-0-is at c.in-Ok-None.ensures.reply in
    subst (λ (r : ℕ). reply_in c.args.hall.now.events (to c.args.key.now r) ≡ None) c.in-Some.ensures (found-reply c.args.hall.now.events c.args.key.now c.in-Some.r e.0 None e.1 e.2)
