use Rattle.std.proofs.Common.{◌≡◌, drop, fold}
use Rattle.spec_text.specs.Numbers.{with_digit, value_of}
use Rattle.mal_text.proofs.numbers.reading.value_at_most.Given as goal

abbrev pub invariant-loop-digit : goal.invariant-loop-digit
invariant-loop-digit l = fold with_digit l.value (drop l.digit-index l.digits) ≡ value_of l.digits
