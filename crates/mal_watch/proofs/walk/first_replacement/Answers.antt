use Rattle.std.proofs.Common.{◌<◌, inl, inr, arith, sym, ◌∙◌}
use Rattle.mal_watch.proofs.HasLemmas.{has-place}
use Rattle.mal_watch.proofs.walk.first_replacement.Goals as goal

pub returns : goal.returns
returns c = λ x m d.
    let p = has-place c.args.lits.now x m in
    let below : p.place < c.loop-place.place = omega (arith, p.inside, c.loop-place-test.false) in
    elim (c.loop-place.invariant p.place below) [
      | inl e ↦ absurd (d (sym p.is ∙ e))
      | inr f ↦ rw p.is at f
    ]
