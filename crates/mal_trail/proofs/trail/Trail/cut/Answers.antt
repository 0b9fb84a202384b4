use Rattle.std.proofs.Common.{◌≡◌, ◌≤◌, ◌-◌, ◌/◌, length, drop, vec_len, arith}
use Rattle.std.proofs.lemmas.List.{length-take-le}
use Rattle.mal_trail.proofs.TrailLemmas.{length_fits}
use Rattle.mal_trail.proofs.CutLemmas.{Fits-take}
use Rattle.mal_trail.proofs.RoomLemmas.{codes-within, codes-behind}
use Rattle.mal_trail.proofs.PlaceLemmas.{cleared-length, stand-cut}
use Rattle.mal_trail.proofs.trail.Trail.cut.Goals as goal

pub clear_places-requires : goal.clear_places-requires
clear_places-requires c =
    let t = c.self.inside in
    let wide : vec_len t.false_places / 2 - 1 ≡ t.room = omega (arith, c.self.invariant.wide) in
    rw (c.behind-removed.ensures, c.as_slice.ensures.value) (codes-behind t.room (vec_len t.false_places) c.args.count t.entries.items c.self.invariant.fits wide)

pub overflow_cast-count : goal.overflow_cast-count
overflow_cast-count c =
    let t = c.self.inside in
    omega (arith, rw (← c.self.view_is) at c.requires, length_fits t.room t.entries.items c.self.invariant.fits, c.self.invariant.fits.small)

pub overflow_add-count : goal.overflow_add-count
overflow_add-count c =
    let t = c.self.inside in
    omega (arith, rw (← c.self.view_is) at c.requires, length_fits t.room t.entries.items c.self.invariant.fits, c.self.invariant.fits.small)

pub invariant_of-self : goal.invariant_of-self
invariant_of-self c =
    let t = c.self.inside in
    let count = c.args.count in
    let short : count ≤ length t.entries.items = rw (← c.self.view_is) at c.requires in
    rw (c.truncate.ensures.items, c.clear_places.ensures, c.behind-removed.ensures, c.as_slice.ensures.value) (record {
      fits = Fits-take t.room count t.entries.items c.self.invariant.fits;
      held = omega (arith, c.self.invariant.held, c.truncate.ensures.capacity);
      wide = rw (cleared-length (drop count t.entries.items) t.false_places.items) c.self.invariant.wide;
      stand = stand-cut t.false_places.items count t.entries.items c.self.invariant.stand short (codes-within t.room (length t.false_places.items) t.entries.items c.self.invariant.fits c.self.invariant.wide);
      handled = omega (arith, c.min-self-inside.ensures, length-take-le count t.entries.items short);
    })
