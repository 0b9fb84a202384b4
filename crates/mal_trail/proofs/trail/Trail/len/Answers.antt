use Rattle.std.proofs.Common.{arith}
use Rattle.mal_trail.proofs.TrailLemmas.{length_fits}
use Rattle.mal_trail.proofs.trail.Trail.len.Goals as goal

pub returns-clause-bound : goal.returns-clause-bound
returns-clause-bound c =
    let fits = c.self.invariant.fits in
    omega (arith, length_fits c.self.inside.room c.self.inside.entries.items fits, fits.small)
