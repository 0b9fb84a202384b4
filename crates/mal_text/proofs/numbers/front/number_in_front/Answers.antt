use Rattle.mal_text.proofs.Fronts.{begins_digits, positive_bits}
use Rattle.mal_text.proofs.numbers.front.number_in_front.Goals as goal

pub returns-in-Some-digits_in_front-clause-number : goal.returns-in-Some-digits_in_front-clause-number
returns-in-Some-digits_in_front-clause-number c = begins_digits c.args.line.now c.in-Some-digits_in_front.rest.now c.in-Some-digits_in_front.value _ c.in-Some-digits_in_front.ensures.number (positive_bits c.in-Some-digits_in_front.value c.in-Some-digits_in_front.ensures.bound)
