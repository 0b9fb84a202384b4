-- What a hall has, as its proofs cite it.
use Rattle.std.specs.Prelude.{false, List}
use Rattle.mal_hall.specs.Entered.{Entered}
use Rattle.mal_hall.specs.declared.hall.Hall.TheInside.{Inside as Fields}
use Rattle.mal_hall.specs.HallView.{Inside}
use Rattle.mal_hall.specs.declared.names.Names.{Names}
use Rattle.spec_hall.specs.Seats.{Seat}

-- what a hall has
abbrev pub parts : Fields → Inside
parts h = record { entries = h.entries; seats = h.seats; spots = h.spots.items; names = h.names; starts = h.starts; unclosed = h.unclosed; tenants = h.tenants; comings = h.comings; moved = h.moved }

-- the same, with other entries and other seats
abbrev pub and_seats : Inside → Entered → List Seat → Inside
and_seats x entries seats = record { entries = entries; seats = seats; spots = x.spots; names = x.names; starts = x.starts; unclosed = x.unclosed; tenants = x.tenants; comings = x.comings; moved = x.moved }

-- the same, with other entries, other seats and other names
abbrev pub and_names : Inside → Entered → List Seat → Names → Inside
and_names x entries seats names = record { entries = entries; seats = seats; spots = x.spots; names = names; starts = x.starts; unclosed = x.unclosed; tenants = x.tenants; comings = x.comings; moved = x.moved }

-- the same, where no job moved since the last balancing
abbrev pub and_still : Inside → Entered → List Seat → Inside
and_still x entries seats = record { entries = entries; seats = seats; spots = x.spots; names = x.names; starts = x.starts; unclosed = x.unclosed; tenants = x.tenants; comings = x.comings; moved = false }
