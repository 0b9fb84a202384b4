use Rattle.mal_seats.proofs.seats.Seats.place_of_number.Goals as goal

pub place_of_number-requires : goal.place_of_number-requires
place_of_number-requires c = rw c.deref.ensures.value c.self.invariant.rising

pub returns : goal.returns
returns c = rw (← c.self.view_is) (rw c.deref.ensures.value at c.place_of_number.ensures)
