use Rattle.std.proofs.Common.{◌≡◌, ap, arith}
use Rattle.mal_seats.proofs.NumberLemmas.{number_of}
use Rattle.mal_seats.proofs.seats.Seats.admit.Goals as goal

pub push-requires-clause-above : goal.push-requires-clause-above
push-requires-clause-above c =
    let number : c.in-Ok.seat.job.number ≡ c.args.job.number = ap number_of c.in-Ok.ensures in
    λ at s there. omega (arith, number, c.requires.above at s there)
