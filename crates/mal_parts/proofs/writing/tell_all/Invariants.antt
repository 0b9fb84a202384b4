use Rattle.std.proofs.Common.{◌≡◌, Some}
use Rattle.mal_parts.specs.Writing.{HasTold}
use Rattle.mal_parts.proofs.writing.tell_all.Given as goal

abbrev pub invariant-loop : goal.invariant-loop
invariant-loop g l =
    (goal.iterator-loop g).can_next l.iterator' × (goal.iterator-loop g).is_finite l.iterator'
    × g.D.LiveDesk.is_of l.desk l.pass
    × (g.D.LiveDesk.numbers l.pass ≡ g.D.LiveDesk.numbers l.fn.pass)
    × (g.D.LiveDesk.said l.pass ≡ g.D.LiveDesk.said l.fn.pass)
    × HasTold (g.D.LiveDesk.workers l.desk) (g.D.LiveDesk.seen l.pass) (Some l.telling.teller) (g.L.Sink.got l.fn.log) (g.L.Sink.got l.log) (g.K.Sink.got l.fn.out) (g.K.Sink.got l.out)
    × (g.L.Sink.faults l.log ≡ g.L.Sink.faults l.fn.log)
    × (g.K.Sink.faults l.out ≡ g.K.Sink.faults l.fn.out)
