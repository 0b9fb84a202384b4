use Rattle.std.proofs.Common.{◌≡◌, ℕ, ◌+◌, List, Option, Some, Err, ap, sym, ◌∙◌, subst}
use Rattle.std.specs.Io.KnownBytes.{Appends}
use Rattle.mal_io.specs.Moves.{GotPrefix}
use Rattle.mal_live.specs.Telling.{told_at}
use Rattle.mal_live.specs.declared.telling.Teller.{Teller}
use Rattle.mal_parts.specs.Writing.{ToldSo}
use Rattle.mal_parts.proofs.Tellings.{reply-there, shown-news, shown-news_in_part, shown-reply, shown-reply_in_part, told-still}
use Rattle.spec_live.specs.Live.{reply_in, to}
use Rattle.mal_parts.proofs.writing.tell_seen.Goals as goal

pub returns-in-Err-clause-told : goal.returns-in-Err-clause-told
returns-in-Err-clause-told g c workers past history log out shows tells =
    shown-news_in_part workers past history c.args.telling.now.teller c.args.key c.args.seen shows log _ _ out _ tells
    (subst (λ (text : List ℕ). (prefix : List ℕ) × GotPrefix (g.L.Sink.got c.args.log.now) (g.L.Sink.got c.write.new.log) text prefix) c.as_slice.ensures.value c.write.ensures.prefix)

pub returns-in_default-clause-told : goal.returns-in_default-clause-told
returns-in_default-clause-told g c workers past history log out shows tells =
    subst (λ (told : Option Teller). ToldSo workers history told log (g.L.Sink.got c.write.new.log) out (g.K.Sink.got c.args.out.now)) (sym (c.pass_over.ensures.told c.write.new.self))
    (shown-news workers past history c.args.telling.now.teller c.args.key c.args.seen shows c.write.new.self log _ _ out _ tells (subst (Appends (g.L.Sink.got c.args.log.now) (g.L.Sink.got c.write.new.log)) c.as_slice.ensures.value c.in-Ok.ensures.all) c.in-Ok.ensures.written c.in-Ok.ensures.counts)

pub returns-in-Ok-tell-clause-told : goal.returns-in-Ok-tell-clause-told
returns-in-Ok-tell-clause-told g c workers past history log out shows tells =
    let news = shown-news workers past history c.args.telling.now.teller c.args.key c.args.seen shows c.write.new.self log _ _ out _ tells (subst (Appends (g.L.Sink.got c.args.log.now) (g.L.Sink.got c.write.new.log)) c.as_slice.ensures.value c.in-Ok.ensures.all) c.in-Ok.ensures.written c.in-Ok.ensures.counts in
    shown-reply workers past history c.args.telling.now.teller c.args.key c.args.seen shows c.write.new.self c.in-Some.reply.items log _ out _ _ news c.in-Ok.ensures.counts
    (reply-there (λ text. reply_in history (to c.args.key (told_at c.args.telling.now.teller c.args.key + 1)) ≡ Some text.items) c.in-Some.is shows.reply)
    c.tell.new.self (subst (Appends (g.K.Sink.got c.args.out.now) (g.K.Sink.got c.tell.new.out)) c.as_slice-2.ensures.value c.in-Ok-tell.ensures.all) c.in-Ok-tell.ensures.counts c.tell.ensures.written

pub returns-in-Err-Broken-clause-told : goal.returns-in-Err-Broken-clause-told
returns-in-Err-Broken-clause-told g c workers past history log out shows tells =
    let news = shown-news workers past history c.args.telling.now.teller c.args.key c.args.seen shows c.write.new.self log _ _ out _ tells (subst (Appends (g.L.Sink.got c.args.log.now) (g.L.Sink.got c.write.new.log)) c.as_slice.ensures.value c.in-Ok.ensures.all) c.in-Ok.ensures.written c.in-Ok.ensures.counts in
    shown-reply_in_part workers past history c.args.telling.now.teller c.args.key c.args.seen shows c.write.new.self c.in-Some.reply.items log _ out _ _ news c.in-Ok.ensures.counts
    (reply-there (λ text. reply_in history (to c.args.key (told_at c.args.telling.now.teller c.args.key + 1)) ≡ Some text.items) c.in-Some.is shows.reply)
    (subst (λ (text : List ℕ). (prefix : List ℕ) × GotPrefix (g.K.Sink.got c.args.out.now) (g.K.Sink.got c.tell.new.out) text prefix) c.as_slice-2.ensures.value c.tell.ensures.prefix)

pub returns-clause-told : goal.returns-clause-told
returns-clause-told g c workers past history log out shows tells =
    let news = shown-news workers past history c.args.telling.now.teller c.args.key c.args.seen shows c.write.new.self log _ _ out _ tells (subst (Appends (g.L.Sink.got c.args.log.now) (g.L.Sink.got c.write.new.log)) c.as_slice.ensures.value c.in-Ok.ensures.all) c.in-Ok.ensures.written c.in-Ok.ensures.counts in
    told-still workers history c.write.new.self c.tell.new.self log _ out _ _ news c.tell.ensures.written (c.tell.ensures.same (c.in-Err-OutOfMemory.is ∙ ap Err c.in-Err-OutOfMemory.field-0-is))
