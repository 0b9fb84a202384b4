use Rattle.std.proofs.Common.{◌≡◌, ◌≤◌}
use Rattle.mal_parts.proofs.working.work_on.Given as goal

abbrev pub invariant-loop : goal.invariant-loop
invariant-loop g l =
    (goal.iterator-loop g).can_next l.iterator' × (goal.iterator-loop g).is_finite l.iterator'
    × g.D.LiveDesk.is_of l.desk l.pass
    × (g.D.LiveDesk.numbers l.pass ≡ g.D.LiveDesk.numbers l.fn.pass)
    × (g.D.LiveDesk.said l.pass ≡ g.D.LiveDesk.said l.fn.pass)
    × (l.patience ≤ 1000)
