use Rattle.std.proofs.Common.{◌≡◌, ◌<◌, ◌+◌, ◌*◌, ◌∙◌, true, false, length, sym, arith}
use Rattle.std.proofs.lemmas.List.{get_or_read}
use Rattle.mal_heap.specs.Rows.{at}
use Rattle.mal_heap.proofs.HeapLemmas.{child-only, child-left, child-right}
use Rattle.mal_heap.proofs.sift.child.Goals as goal

pub outranks-requires-clause-first : goal.outranks-requires-clause-first
outranks-requires-clause-first c =
    let xs = c.args.row.now.items.items in
    let p = 2 * c.args.place + 1 + 1 in
    let low : p < length xs = omega (arith, c.requires.within) in
    let a : c.index-far.result.now ≡ at xs p = get_or_read xs p c.index-far.result.now low c.index-far.ensures 0 in
    rw a (omega (arith, c.requires.row.below p low, c.requires.long))

pub outranks-requires-clause-second : goal.outranks-requires-clause-second
outranks-requires-clause-second c =
    let xs = c.args.row.now.items.items in
    let p = 2 * c.args.place + 1 in
    let low : p < length xs = omega (arith, c.requires.within) in
    let a : c.index.result.now ≡ at xs p = get_or_read xs p c.index.result.now low c.index.ensures 0 in
    rw a (omega (arith, c.requires.row.below p low, c.requires.long))

pub returns-then-count-right : goal.returns-then-count-right
returns-then-count-right c = child-only c.args.index c.args.activities.now c.args.row.now.items.items c.args.count c.args.place c.requires.some (omega arith)

pub returns-then-outranks : goal.returns-then-outranks
returns-then-outranks c =
    let xs = c.args.row.now.items.items in
    let p = 2 * c.args.place + 1 in
    let low : p < length xs = omega (arith, c.requires.within) in
    let far : p + 1 < length xs = omega (arith, c.requires.within) in
    let a : c.index-far.result.now ≡ at xs (p + 1) = get_or_read xs (p + 1) c.index-far.result.now far c.index-far.ensures 0 in
    let b : c.index.result.now ≡ at xs p = get_or_read xs p c.index.result.now low c.index.ensures 0 in
    let t : c.outranks.result ≡ true = cc in
    let e = rw (a, b) at c.outranks.ensures in
    child-right c.args.index c.args.activities.now xs c.args.count c.args.place (omega arith) (sym e ∙ t)

pub returns : goal.returns
returns c =
    let xs = c.args.row.now.items.items in
    let p = 2 * c.args.place + 1 in
    let low : p < length xs = omega (arith, c.requires.within) in
    let far : p + 1 < length xs = omega (arith, c.requires.within) in
    let a : c.index-far.result.now ≡ at xs (p + 1) = get_or_read xs (p + 1) c.index-far.result.now far c.index-far.ensures 0 in
    let b : c.index.result.now ≡ at xs p = get_or_read xs p c.index.result.now low c.index.ensures 0 in
    let t : c.outranks.result ≡ false = cc in
    let e = rw (a, b) at c.outranks.ensures in
    child-left c.args.index c.args.activities.now xs c.args.count c.args.place (omega arith) (sym e ∙ t)
