use Rattle.std.proofs.Common.{refl, arith}
use Rattle.mal_hall.proofs.HallLemmas.{hall-waited}
use Rattle.mal_hall.proofs.Parts.{and_seats, parts}
use Rattle.mal_hall.proofs.PhaseLemmas.{Exchanges, phase-exchange, seat-there, within-first}
use Rattle.mal_hall.proofs.RoomLemmas.{room-kept}
use Rattle.mal_hall.proofs.hall.Hall.exchange_at.Goals as goal
use Rattle.mal_hall.proofs.hall.Hall.exchange_at.Goals.{In-Ok}

pub owed-owed-requires : goal.owed-owed-requires
owed-owed-requires c = room-kept (parts c.self.inside) _ c.self.invariant c.deref.ensures.value

pub enter_exchange-requires-clause-place : goal.enter_exchange-requires-clause-place
enter_exchange-requires-clause-place c =
    let first = rw (← c.self.view_is) at c.requires.first in
    omega (arith, within-first _ c.args.at first.job c.self.invariant first.place)

pub returns-in-Err-clause-err : goal.returns-in-Err-clause-err
returns-in-Err-clause-err c = rw (← c.self.view_is, c.in-Err.ensures.err.events) refl

pub invariant_of-self : goal.invariant_of-self
invariant_of-self c = hall-waited (parts c.self.inside) c.enter_exchange.new.entries c.enter_exchange.new.seats c.self.invariant c.in-Err.ensures.err

-- the exchange was entered
exchanged : (c : In-Ok) → Exchanges (parts c.self.inside) (and_seats (parts c.self.inside) c.enter_exchange.new.entries c.enter_exchange.new.seats)
exchanged c =
    let e = c.in-Ok.ensures in
    let owing = rw c.deref.ensures.value at c.owed-owed.ensures.value in
    let calm = rw (← c.self.view_is) at c.requires.calm in
    let first = rw (← c.self.view_is) at c.requires.first in
    let there = seat-there c.self.inside.seats c.args.at (within-first (parts c.self.inside) c.args.at first.job c.self.invariant first.place) in
    phase-exchange (parts c.self.inside) (and_seats (parts c.self.inside) c.enter_exchange.new.entries c.enter_exchange.new.seats) c.args.at there.0 c.self.invariant calm first there.1 e.workers (e.events there.0 there.1) (e.seats there.0 there.1) refl refl refl (record { names = refl; tenants = refl; comings = refl; moved = refl }) (omega (arith, owing, e.room))

pub invariant_of-self-2 : goal.invariant_of-self-2
invariant_of-self-2 c = (exchanged c).hall

pub returns-clause-ok : goal.returns-clause-ok
returns-clause-ok c = rw (← c.self.view_is) (exchanged c).has
