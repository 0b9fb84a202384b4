use Rattle.std.proofs.Common.{◌≡◌, ◌≤◌, length, arith, length-set}
use Rattle.std.proofs.lemmas.List.{length_push}
use Rattle.mal_base.specs.Literals.{var_of, negated}
use Rattle.mal_trail.proofs.TrailLemmas.{room_for, Fits-push}
use Rattle.mal_trail.proofs.PlaceLemmas.{has-place, stand-push}
use Rattle.mal_trail.proofs.trail.Trail.push.Goals as goal

pub overflow_cast-len : goal.overflow_cast-len
overflow_cast-len c =
    let positive : 1 ≤ var_of c.args.lit = omega (arith, c.negation_code-code.ensures.range) in
    omega (arith, c.len.ensures, c.self.invariant.fits.small, room_for c.self.inside.room c.self.inside.entries.items (var_of c.args.lit) c.self.invariant.fits (rw (← c.self.view_is) at c.requires.free) positive (rw (← c.self.view_is) at c.requires.room))

pub push_reserved-requires : goal.push_reserved-requires
push_reserved-requires c =
    let positive : 1 ≤ var_of c.args.lit = omega (arith, c.negation_code-code.ensures.range) in
    omega (arith, c.self.invariant.held, room_for c.self.inside.room c.self.inside.entries.items (var_of c.args.lit) c.self.invariant.fits (rw (← c.self.view_is) at c.requires.free) positive (rw (← c.self.view_is) at c.requires.room))

pub invariant_of-self : goal.invariant_of-self
invariant_of-self c =
    let t = c.self.inside in
    let free = rw (← c.self.view_is) at c.requires.free in
    let room = rw (← c.self.view_is) at c.requires.room in
    let last = rw (← c.self.view_is) at c.requires.last in
    let next = rw (← c.self.view_is) at c.requires.next in
    let positive : 1 ≤ var_of c.args.lit = omega (arith, c.negation_code-code.ensures.range) in
    let code : c.negation_code-code.result ≡ negated c.args.lit = c.negation_code-code.ensures.value in
    let len : c.len.result ≡ length t.entries.items = omega (arith, c.len.ensures) in
    let place = has-place t.room (length t.false_places.items) c.args.lit c.self.invariant.wide positive room in
    rw (c.push_reserved.ensures.items, code, len) (record {
      fits = Fits-push t.room t.entries.items (record { lit = c.args.lit; reason = c.args.reason; level = c.args.level }) c.self.invariant.fits free positive room last next;
      held = omega (arith, c.self.invariant.held, c.push_reserved.ensures.capacity);
      wide = rw (length-set t.false_places.items (negated c.args.lit) (length t.entries.items)) c.self.invariant.wide;
      handled = omega (arith, c.self.invariant.handled, length_push t.entries.items (record { lit = c.args.lit; reason = c.args.reason; level = c.args.level }));
      stand = stand-push t.false_places.items t.entries.items (record { lit = c.args.lit; reason = c.args.reason; level = c.args.level }) c.self.invariant.stand free place;
    })
