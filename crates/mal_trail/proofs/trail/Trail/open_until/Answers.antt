use Rattle.std.proofs.Common.{◌<◌, length, sym, arith}
use Rattle.mal_trail.specs.Trailed.{nowhere}
use Rattle.mal_trail.proofs.TrailLemmas.{length_fits}
use Rattle.mal_trail.proofs.PlaceLemmas.{false-told}
use Rattle.mal_trail.proofs.trail.Trail.open_until.Goals as goal

pub returns : goal.returns
returns c =
    let t = c.self.inside in
    let small : length t.entries.items < nowhere = omega (arith, length_fits t.room t.entries.items c.self.invariant.fits, c.self.invariant.fits.small) in
    rw (← c.self.view_is, c.place_at.ensures, c.as_slice.ensures.value, c.code-code.ensures.value) (λ n l. sym (false-told t.false_places.items t.entries.items c.self.invariant.stand small c.args.lit n l))
