use Rattle.std.proofs.Common.{refl, arith}
use Rattle.mal_hall.proofs.Parts.{and_still, parts}
use Rattle.mal_hall.proofs.PhaseLemmas.{Balanced, phase-balance}
use Rattle.mal_hall.proofs.RoomLemmas.{room-kept}
use Rattle.mal_hall.proofs.hall.Hall.balance.Goals as goal
use Rattle.mal_hall.proofs.hall.Hall.balance.Goals.{After-self-1}

pub owed-owed-requires : goal.owed-owed-requires
owed-owed-requires c = room-kept (parts c.self.inside) _ c.self.invariant c.deref.ensures.value

-- the balancing was entered
balanced : (c : After-self-1) → Balanced (parts c.self.inside) (and_still (parts c.self.inside) c.enter_balance.new.entries c.enter_balance.new.seats)
balanced c =
    let e = c.in_ok-enter_balance.ensures in
    let owing = rw c.deref.ensures.value at c.owed-owed.ensures.value in
    phase-balance (parts c.self.inside) (and_still (parts c.self.inside) c.enter_balance.new.entries c.enter_balance.new.seats) c.self.invariant (rw (← c.self.view_is) at c.requires.due) e.workers e.balancing refl refl refl refl refl refl refl (omega (arith, owing, e.room))

pub invariant_of-self-2 : goal.invariant_of-self-2
invariant_of-self-2 c = (balanced c).hall

pub returns-clause-ok : goal.returns-clause-ok
returns-clause-ok c = rw (← c.self.view_is) (balanced c).has
