use Rattle.std.proofs.Common.{ℕ, ◌+◌, ◌-◌, ◌/◌, sym, ap, ◌∙◌, arith}
use Rattle.spec_activity.specs.Activity.{exponent, mantissa, carried}
use Rattle.spec_activity.proofs.Far.{gone}
use Rattle.mal_activity.proofs.activity.raised.Goals as goal
use Rattle.mal_activity.proofs.activity.raised.Goals.{then-distance-lt-BITS, else-distance-lt-BITS}

pub returns : goal.returns
returns c =
    let a = c.args.greater in
    let b = c.args.lesser in
    elim c.if-distance-lt-BITS.branch [
      | then-distance-lt-BITS w ↦ c.carried.ensures ∙ ap (λ (x : ℕ). carried (exponent a) (mantissa a + x)) w.more-is
      | else-distance-lt-BITS w ↦ c.carried.ensures ∙ ap (λ (x : ℕ). carried (exponent a) (mantissa a + x)) (w.more-is ∙ sym (gone (mantissa b) (exponent a - exponent b) (omega arith) (omega arith)))
    ]
