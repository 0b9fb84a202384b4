use Rattle.std.proofs.Common.{◌≡◌, suc, ◌+◌, ◌-◌, arith}
use Rattle.mal_seq.proofs.RoundLemmas.{IsLeft, left-begins, left-lower, left-upper}
use Rattle.mal_seq.proofs.lubys.luby.Goals as goal
use Rattle.mal_seq.proofs.lubys.luby.Goals.{then-size-rest, else-size-rest}

pub loop-made-init : goal.loop-made-init
loop-made-init c = left-begins c.args.i (omega arith)

pub loop-made-preserved : goal.loop-made-preserved
loop-made-preserved c =
    let now : 64 - c.loop-made._made ≡ suc (64 - (c.loop-made._made + 1)) = omega arith in
    let inv : IsLeft (suc (64 - (c.loop-made._made + 1))) c.loop-made.rest c.loop-made.size c.args.i = rw now at c.loop-made.invariant in
    elim c.if-size-rest.branch [
      | then-size-rest w ↦ rw w.rest-is (left-upper (64 - (c.loop-made._made + 1)) c.loop-made.rest c.loop-made.size c.args.i inv c.if-rest-size.false w.if-size-rest.true)
      | else-size-rest w ↦ rw w.rest-is (left-lower (64 - (c.loop-made._made + 1)) c.loop-made.rest c.loop-made.size c.args.i inv c.if-rest-size.false w.if-size-rest.false)
    ]
