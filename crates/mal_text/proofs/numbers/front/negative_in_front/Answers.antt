use Rattle.std.proofs.Common.{arith}
use Rattle.mal_text.proofs.Fronts.{begins_negative, negative_bits}
use Rattle.mal_text.proofs.numbers.front.negative_in_front.Goals as goal

pub returns-in-Some-clause-number : goal.returns-in-Some-clause-number
returns-in-Some-clause-number c = begins_negative c.args.line.now c.in-Some.rest.now c.in-Some.value _ c.in-Some.ensures.number (omega arith) (negative_bits c.in-Some.value c.in-Some.ensures.bound)
