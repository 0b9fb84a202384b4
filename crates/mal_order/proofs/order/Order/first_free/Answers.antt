use Rattle.std.proofs.Common.{◌<◌, ◌≤◌, ◌∙◌, sym, ap, length, arith}
use Rattle.spec_node.specs.Value.{has_value}
use Rattle.mal_order.proofs.FreeLemmas.{free-here, free-ends, find-passed, passed-more}
use Rattle.mal_order.proofs.order.Order.first_free.Goals as goal

pub returns-in-None-clause-value : goal.returns-in-None-clause-value
returns-in-None-clause-value g c =
    let inv = c.loop-place.invariant in
    let s = c.loop-place.self in
    let trail = g.T.TrailView.entries c.args.trail.now in
    let low : s.passed < length s.list = omega (arith, ap length inv.list, inv.place) in
    rw (← inv.list) (sym (find-passed (has_value trail) s.list s.passed inv.valued ∙ free-here trail s.list s.passed c.ahead-var.result low c.ahead-var.ensures (sym c.value.ensures ∙ c.in-None.is)))

pub loop-place-preserved : goal.loop-place-preserved
loop-place-preserved g c =
    let inv = c.loop-place.invariant in
    let s = c.loop-place.self in
    let trail = g.T.TrailView.entries c.args.trail.now in
    let low : s.passed < length s.list = omega (arith, ap length inv.list, inv.place) in
    record {
      index = c.pass.ensures.index ∙ inv.index;
      list = c.pass.ensures.list ∙ inv.list;
      room = c.pass.ensures.room ∙ inv.room;
      place = omega (arith, c.pass.ensures.passed, inv.place);
      valued = rw (c.pass.ensures.passed, c.pass.ensures.list) (passed-more trail s.list s.passed c.ahead-var.result c.in-Some.field-0 low c.ahead-var.ensures (sym c.value.ensures ∙ c.in-Some.is) inv.valued);
    }

pub returns-clause-value : goal.returns-clause-value
returns-clause-value g c =
    let inv = c.loop-place.invariant in
    let s = c.loop-place.self in
    let trail = g.T.TrailView.entries c.args.trail.now in
    let high : length s.list ≤ s.passed = omega (arith, ap length inv.list, inv.place) in
    rw (← inv.list) (sym (find-passed (has_value trail) s.list s.passed inv.valued ∙ free-ends trail s.list s.passed high))
