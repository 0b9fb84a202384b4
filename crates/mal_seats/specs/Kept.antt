-- What is kept of the seats of a hall, and beside them.
use Rattle.std.specs.Prelude.{ℕ, List}
use Rattle.spec_hall.specs.Seats.{Seat}
use Rattle.mal_seats.specs.Counted.{AreCounted}
use Rattle.mal_seats.specs.declared.counts.Counts.{Counts}
use Rattle.mal_seats.specs.Numbered.{Rise}

-- the numbers of the jobs rise, and the counts and the places of the jobs that have a volume are those of the seats
pub record AreKept (seats : List Seat) (counts : Counts) (filled : List ℕ) : Type 0 where
  pub counted : AreCounted seats counts filled
  pub rising : Rise seats
