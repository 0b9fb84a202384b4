use Rattle.std.proofs.Common.{◌≡◌, ◌≤◌, ◌+◌, ◌-◌, ◌*◌, ◌++◌, length, replicate, vec_len, arith}
use Rattle.std.proofs.lemmas.List.{take_all, length-append, length-replicate}
use Rattle.mal_trail.specs.Trailed.{nowhere}
use Rattle.mal_trail.proofs.PlaceLemmas.{stand-more}
use Rattle.mal_trail.proofs.trail.Trail.reserve.Goals as goal

pub invariant_of-self-2 : goal.invariant_of-self-2
invariant_of-self-2 c =
    let t = c.self.inside in
    let fits = c.self.invariant.fits in
    let places = 2 * c.args.variables + 2 in
    let more : t.room ≤ c.args.variables = omega (arith, c.if-variables-self.false) in
    let few : length t.false_places.items ≤ places = omega (arith, c.self.invariant.wide, more) in
    let long : length (t.false_places.items ++ replicate (places - vec_len t.false_places) nowhere) ≡ places = omega (arith, few, length-append t.false_places.items (replicate (places - vec_len t.false_places) nowhere), length-replicate (places - vec_len t.false_places) nowhere) in
    rw (c.reserve.ensures.items, c.in_ok-resize.ensures.items, take_all places t.false_places.items few) (record {
      fits = record { small = c.requires; distinct = fits.distinct; within = λ v h. let w = fits.within v h in (w.0, omega (arith, w.1, more)); levels = fits.levels };
      held = omega (arith, c.in_ok-reserve.ensures.ok);
      wide = omega (arith, long);
      stand = stand-more t.false_places.items (places - vec_len t.false_places) t.entries.items c.self.invariant.stand;
      handled = c.self.invariant.handled;
    })
