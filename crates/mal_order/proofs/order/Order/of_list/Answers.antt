use Rattle.std.proofs.Common.{◌+◌, ◌<◌, length, arith}
use Rattle.std.proofs.lemmas.List.{get_or_read}
use Rattle.mal_order.proofs.RingLemmas.{once-read, placed-read}
use Rattle.mal_order.proofs.order.Order.of_list.Goals as goal

pub push-requires-clause-place : goal.push-requires-clause-place
push-requires-clause-place c =
    let list = c.args.list.now in
    let low : c.loop-var.var-index < length list = omega arith in
    let read = get_or_read list c.loop-var.var-index c.var-item.result low c.var-item.is 0 in
    rw (c.number.ensures.value, c.loop-var.invariant.places, read) (placed-read (length list + 1) list c.loop-var.var-index low c.requires.turned.placed)

pub push-requires-clause-new : goal.push-requires-clause-new
push-requires-clause-new c =
    let list = c.args.list.now in
    let low : c.loop-var.var-index < length list = omega arith in
    let read = get_or_read list c.loop-var.var-index c.var-item.result low c.var-item.is 0 in
    rw (c.number.ensures.value, c.loop-var.invariant.done, read) (once-read list c.loop-var.var-index low c.requires.turned.once)
