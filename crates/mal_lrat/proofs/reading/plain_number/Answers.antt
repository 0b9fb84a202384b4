use Rattle.std.proofs.Common.{arith}
use Rattle.mal_lrat.proofs.Plain.{plain-begins}
use Rattle.mal_lrat.proofs.reading.plain_number.Goals as goal

pub returns-then-not-is_digit-clause-number : goal.returns-then-not-is_digit-clause-number
returns-then-not-is_digit-clause-number c = plain-begins c.args.line.now c.loop-index.index c.loop-index.value (omega arith) c.loop-index.invariant.0 c.loop-index.invariant.1 c.loop-index.invariant.3 (λ e. omega (arith, e, c.if-value-eq0.false)) (omega (arith, c.if-byte-ne32.false))
