use Rattle.std.proofs.Common.{rules, ◌≡◌, ◌++◌, ◌∙◌, ◌⊎◌, ◌≤◌, inl, inr, List, length, drop, sym, arith}
use Rattle.mal_buffer.proofs.Merging.{merged-end}
use Rattle.mal_buffer.proofs.buffer.merged.Goals as goal
use Rattle.mal_buffer.proofs.buffer.merged.Goals.{then-loop-i-test+else-j-ys, else-loop-i-test}

pub returns : goal.returns
returns c =
    let i = c.loop-i.i in
    let j = c.loop-i.j in
    let over : (length c.args.xs.now ≤ i) ⊎ (length c.args.ys.now ≤ j) = elim c.loop-i-test.branch [ then-loop-i-test+else-j-ys w ↦ inr (search rules) | else-loop-i-test w ↦ inl (search rules) ] in
    let end = merged-end c.args.xs.now c.args.ys.now c.loop-i.all.items i j over c.loop-i.invariant.rest in
    search (rules, end)
