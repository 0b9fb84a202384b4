use Rattle.std.proofs.Common.{◌≡◌, ◌≢◌, ℕ, ◌+◌, ◌-◌, ◌≤◌, refl, ◌∙◌, arith}
use Rattle.std.proofs.lemmas.List.{length-append}
use Rattle.mal_order.proofs.CountedLemmas.{counted_next}
use Rattle.mal_order.proofs.RingLemmas.{apart-back}
use Rattle.mal_order.proofs.order.push_counted.Goals as goal

pub loop-place-init : goal.loop-place-init
loop-place-init c =
    let here : c.args.first + 0 ≡ c.args.first = omega arith in
    let all : c.args.count - 0 ≡ c.args.count = omega arith in
    record {
      done = rw (here, all) refl;
      new = λ v l h. c.requires.new v (omega (arith, l)) h;
      long = omega arith;
      places = refl;
      room = refl;
    }

pub loop-place-preserved : goal.loop-place-preserved
loop-place-preserved c =
    let inv = c.loop-place.invariant in
    let here = c.args.first + c.loop-place.place in
    let other : (v : ℕ) → c.args.first + (c.loop-place.place + 1) ≤ v → here ≢ v = λ v l q. omega (arith, l, q) in
    record {
      done = rw c.push.ensures.list (counted_next c.loop-place.ring.list c.args.first c.args.count c.loop-place.place (omega arith) ∙ inv.done);
      new = λ v l h. rw c.push.ensures.list (apart-back v here c.loop-place.ring.list (inv.new v (omega (arith, l)) h) (other v l));
      long = rw (c.push.ensures.list, length-append) (omega (arith, inv.long));
      places = c.push.ensures.places ∙ inv.places;
      room = c.push.ensures.room ∙ inv.room;
    }
