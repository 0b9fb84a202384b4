use Rattle.std.proofs.Common.{arith}
use Rattle.mal_text.proofs.Values.{next_within}
use Rattle.mal_text.proofs.numbers.reading.value_at_most.Goals as goal

pub returns-in-None : goal.returns-in-None
returns-in-None c = λ within. c.in-None.ensures (omega (arith, next_within c.args.digits.now c.loop-digit.digit-index c.loop-digit.value c.args.max c.loop-digit-test.true c.loop-digit.invariant within))
