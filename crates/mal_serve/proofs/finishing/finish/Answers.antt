use Rattle.mal_serve.proofs.Ending.{finished-part, finished-whole, untold-part}
use Rattle.mal_serve.proofs.finishing.finish.Goals as goal

pub returns-in-Err-clause-finished : goal.returns-in-Err-clause-finished
returns-in-Err-clause-finished g c = λ past log_first out_first front still tells.
    untold-part c.args.hall.workers past c.args.hall.events c.bring_to_end.new.hall.events c.args.teller log_first (g.L.Sink.got c.args.log.now) out_first (g.K.Sink.got c.args.out.now) front still c.bring_to_end.ensures.legal c.bring_to_end.ensures.turns tells

pub returns-in-Ok-tell_rest-clause-finished : goal.returns-in-Ok-tell_rest-clause-finished
returns-in-Ok-tell_rest-clause-finished g c = λ past log_first out_first front still tells.
    finished-whole c.args.hall.workers c.bring_to_end.new.hall.workers past c.args.hall.events c.bring_to_end.new.hall.events c.args.teller log_first (g.L.Sink.got c.args.log.now) (g.L.Sink.got c.tell_rest.new.log) out_first (g.K.Sink.got c.args.out.now) (g.K.Sink.got c.tell_rest.new.out)
    c.bring_to_end.ensures.workers front still c.bring_to_end.ensures.legal c.bring_to_end.ensures.turns c.tell_rest.new.teller c.in-Ok.ensures.answered c.in-Ok-tell_rest.ensures.done (c.in-Ok-tell_rest.ensures.told past log_first out_first) tells

pub returns-in-Err-Broken-clause-finished : goal.returns-in-Err-Broken-clause-finished
returns-in-Err-Broken-clause-finished g c = λ past log_first out_first front still tells.
    finished-part c.args.hall.workers c.bring_to_end.new.hall.workers past c.args.hall.events c.bring_to_end.new.hall.events c.args.teller log_first (g.L.Sink.got c.args.log.now) (g.L.Sink.got c.tell_rest.new.log) out_first (g.K.Sink.got c.args.out.now) (g.K.Sink.got c.tell_rest.new.out)
    c.bring_to_end.ensures.workers front still c.bring_to_end.ensures.legal c.bring_to_end.ensures.turns (c.in-Err-Broken.ensures.told past log_first out_first) tells

pub returns-clause-finished : goal.returns-clause-finished
returns-clause-finished g c = λ past log_first out_first front still tells.
    finished-part c.args.hall.workers c.bring_to_end.new.hall.workers past c.args.hall.events c.bring_to_end.new.hall.events c.args.teller log_first (g.L.Sink.got c.args.log.now) (g.L.Sink.got c.tell_rest.new.log) out_first (g.K.Sink.got c.args.out.now) (g.K.Sink.got c.tell_rest.new.out)
    c.bring_to_end.ensures.workers front still c.bring_to_end.ensures.legal c.bring_to_end.ensures.turns (c.in-Err-OutOfMemory.ensures.told past log_first out_first) tells
