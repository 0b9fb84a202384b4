use Rattle.std.proofs.Common.{◌<◌, ◌≤◌, ◌∙◌, not, length, sym, ap, arith}
use Rattle.std.proofs.lemmas.List.{get_or_read}
use Rattle.spec_node.specs.Value.{is_true}
use Rattle.mal_order.proofs.FreeLemmas.{find-passed}
use Rattle.mal_cdcl.proofs.PastLemmas.{open-here, open-ends}
use Rattle.mal_cdcl.proofs.assuming.next_assumption.Goals as goal

pub returns-then-not-is_true-clause-value : goal.returns-then-not-is_true-clause-value
returns-then-not-is_true-clause-value c =
    let inv = c.loop-place.invariant in
    let p = c.loop-place.place in
    let trail = c.args.trail.now.entries in
    let list = c.args.assumptions.now in
    let low : p < length list = omega arith in
    let read = get_or_read list p c.index-assumptions-place.result low c.index-assumptions-place.is 0 in
    sym (find-passed (is_true trail) list p (rw inv.place at inv.passed) ∙ open-here trail list p c.index-assumptions-place.result low read (ap not (rw c.is_true.ensures at c.if-not-is_true.true)))

pub returns-clause-value : goal.returns-clause-value
returns-clause-value c =
    let inv = c.loop-place.invariant in
    let p = c.loop-place.place in
    let trail = c.args.trail.now.entries in
    let list = c.args.assumptions.now in
    let high : length list ≤ p = omega arith in
    sym (find-passed (is_true trail) list p (rw inv.place at inv.passed) ∙ open-ends trail list p high)
