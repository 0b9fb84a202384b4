use Rattle.std.proofs.Common.{IfOk, Result, subst}
use Rattle.mal_hall.specs.Offered.{replied}
use Rattle.mal_service.specs.News.{AreNews}
use Rattle.mal_service.specs.declared.news.News.{News}
use Rattle.mal_service.specs.Record.{events_of}
use Rattle.mal_turn.specs.Tokens.{view}
use Rattle.std.specs.declared.alloc.AllocError.{AllocError}
use Rattle.mal_serve.proofs.SaidLemmas.{looked_lines, looked_reply, record-stays}
use Rattle.mal_serve.proofs.hall.LiveHallLiveDeskPass.look.Goals as goal

pub returns-in-Ok-clause-stay : goal.returns-in-Ok-clause-stay
returns-in-Ok-clause-stay g c = record-stays g.S.Size.workers (view c.look-pass.result.0).seen c.look-pass.ensures.entry.legal

pub returns-in-Ok-clause-reply : goal.returns-in-Ok-clause-reply
returns-in-Ok-clause-reply g c =
    looked_reply g.S.Size.workers (view c.args.pass) (view c.look-pass.result.0) c.args.key c.args.revision (replied c.look-pass.result.1.reply) c.seen_of.result
    c.look-pass.ensures.entry c.seen_of.ensures.reply

pub returns-in-Ok-clause-news : goal.returns-in-Ok-clause-news
returns-in-Ok-clause-news g c =
    let history = events_of (view c.look-pass.result.0).seen in
    looked_lines c.args.from history c.in-Ok.news c.seen_of.result
    (subst (λ (n : Result News AllocError). IfOk n (AreNews c.args.from history)) c.in-Ok.is c.look-pass.ensures.news)
    c.seen_of.ensures.text

pub returns-in-Err-clause-stay : goal.returns-in-Err-clause-stay
returns-in-Err-clause-stay g c = record-stays g.S.Size.workers (view c.look-pass.result.0).seen c.look-pass.ensures.entry.legal
