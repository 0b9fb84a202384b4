-- The worked examples, by computation.
use Rattle.std.proofs.Common.{refl}
use Rattle.std.specs.Fmt.{digits}
use Rattle.spec_text.specs.Examples.{NumberExamples, TextExamples}

pub number_examples : NumberExamples
number_examples = record { plain = refl; leading_zeros = refl; zero_word = refl; minus = refl; minus_leading_zero = refl; minus_zero = refl; minus_zeros = refl; plus = refl; minus_alone = refl; no_digit = refl; too_large = refl; minus_too_large = refl }

pub text_examples : TextExamples
unfolding digits
text_examples = record { positive = refl; negative = refl; line = refl; blanks = refl; empty_line = refl; last_line = refl; line_end_last = refl }
