use Rattle.std.proofs.Common.{◌≡◌}
use Rattle.mal_parts.specs.Reading.{HasCome}
use Rattle.mal_parts.proofs.reading.read_pieces.Given as goal

abbrev pub invariant-loop : goal.invariant-loop
invariant-loop g l = let desk = g.D.LiveDesk in let source = g.S.Source in
    (goal.iterator-loop g).can_next l.iterator' × (goal.iterator-loop g).is_finite l.iterator'
    × desk.is_of l.desk l.pass
    × (desk.numbers l.pass ≡ desk.numbers l.fn.pass)
    × (source.faults l.source ≡ source.faults l.fn.source)
    × HasCome (desk.said l.fn.pass) (desk.said l.pass) (source.left l.fn.source) (source.left l.source) l.progress.feeder l.progress.open
