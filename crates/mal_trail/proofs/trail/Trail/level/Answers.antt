use Rattle.std.proofs.Common.{arith}
use Rattle.std.proofs.lemmas.Grind.{common_steps}
use Rattle.mal_trail.proofs.LevelLemmas.{level-length}
use Rattle.mal_trail.proofs.TrailLemmas.{length_fits}
use Rattle.mal_trail.proofs.trail.Trail.level.Goals as goal

pub returns-in-Some-clause-bound : goal.returns-in-Some-clause-bound
returns-in-Some-clause-bound c =
    let k = level-length c.self.inside.entries.items c.self.invariant.fits.levels in
    grind (arith, common_steps)

pub returns-in-Some-clause-limit : goal.returns-in-Some-clause-limit
returns-in-Some-clause-limit c =
    let fits = c.self.invariant.fits in
    let l = level-length c.self.inside.entries.items fits.levels in
    let k = length_fits c.self.inside.room c.self.inside.entries.items fits in
    let s = fits.small in
    grind (arith, common_steps)
