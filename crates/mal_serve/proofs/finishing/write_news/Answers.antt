use Rattle.std.proofs.Common.{ℕ, List, ◌∙◌, subst}
use Rattle.std.specs.Prelude.{OnOk}
use Rattle.std.specs.Io.KnownBytes.{Appends}
use Rattle.mal_io.specs.Moves.{GotPrefix}
use Rattle.mal_serve.proofs.Ending.{news-lines}
use Rattle.mal_serve.proofs.finishing.write_news.Goals as goal

pub returns-clause-all : goal.returns-clause-all
returns-clause-all g c =
    let lines = c.deref.ensures.value ∙ news-lines c.written.result c.args.teller.now.written c.args.hall.now.events c.in-Ok.news.text.items c.in-Ok.ensures.text c.written.ensures in
    subst (λ (text : List ℕ). OnOk c.write.result (Appends (g.L.Sink.got c.args.log.now) (g.L.Sink.got c.write.new.log) text)) lines c.write.ensures.all

pub returns-clause-prefix : goal.returns-clause-prefix
returns-clause-prefix g c =
    let lines = c.deref.ensures.value ∙ news-lines c.written.result c.args.teller.now.written c.args.hall.now.events c.in-Ok.news.text.items c.in-Ok.ensures.text c.written.ensures in
    (c.write.ensures.prefix.0, subst (λ (text : List ℕ). GotPrefix (g.L.Sink.got c.args.log.now) (g.L.Sink.got c.write.new.log) text c.write.ensures.prefix.0) lines c.write.ensures.prefix.1)
