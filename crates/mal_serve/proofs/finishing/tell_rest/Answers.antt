use Rattle.mal_serve.proofs.Ending.{news-part, news-whole}
use Rattle.mal_serve.proofs.finishing.tell_rest.Goals as goal

pub returns-in-Err-clause-told : goal.returns-in-Err-clause-told
returns-in-Err-clause-told g c = λ past log_first out_first front still tells.
    news-part c.args.hall.now.workers past c.args.hall.now.events c.args.teller.now log_first (g.L.Sink.got c.args.log.now) (g.L.Sink.got c.write_news.new.log) out_first (g.K.Sink.got c.args.out.now) c.write_news.ensures.prefix.0 front still c.write_news.ensures.legal tells c.write_news.ensures.prefix.1

pub returns-in-Ok-clause-told : goal.returns-in-Ok-clause-told
returns-in-Ok-clause-told g c = λ past log_first out_first front still tells.
    c.tell_jobs.ensures.told log_first (g.L.Sink.got c.write_news.new.log) out_first
    (news-whole c.args.hall.now.workers past c.args.hall.now.events c.args.teller.now c.write_news.new.teller log_first (g.L.Sink.got c.args.log.now) (g.L.Sink.got c.write_news.new.log) out_first (g.K.Sink.got c.args.out.now) front still c.write_news.ensures.legal tells c.in-Ok.ensures.all c.in-Ok.ensures.written c.write_news.ensures.counts)
