use Rattle.std.proofs.Common.{arith}
use Rattle.mal_trail.proofs.TrailLemmas.{length_fits}
use Rattle.mal_trail.proofs.trail.Trail.processed.Goals as goal

pub returns-clause-limit : goal.returns-clause-limit
returns-clause-limit c =
    let t = c.self.inside in
    omega (arith, c.self.invariant.handled, length_fits t.room t.entries.items c.self.invariant.fits, c.self.invariant.fits.small)
