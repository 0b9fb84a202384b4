use Rattle.std.proofs.Common.{◌<◌, length, arith}
use Rattle.mal_base.specs.Literals.{negated}
use Rattle.mal_trail.specs.Trailed.{nowhere}
use Rattle.mal_trail.proofs.TrailLemmas.{length_fits}
use Rattle.mal_trail.proofs.PlaceLemmas.{false-told, negated-back}
use Rattle.mal_trail.proofs.trail.Trail.is_true_before.Goals as goal

pub returns : goal.returns
returns c =
    let t = c.self.inside in
    let small : length t.entries.items < nowhere = omega (arith, length_fits t.room t.entries.items c.self.invariant.fits, c.self.invariant.fits.small) in
    let told = false-told t.false_places.items t.entries.items c.self.invariant.stand small (negated c.args.lit) c.args.count (rw (← c.self.view_is) at c.requires) in
    rw (← c.self.view_is, c.place_at.ensures, c.as_slice.ensures.value, c.negation_code.ensures.value) (rw (negated-back c.args.lit) at told)
