-- The worked examples, by computation.
use Rattle.std.proofs.Common.{refl}
use Rattle.std.specs.Fmt.{digits}
use Rattle.spec_dimacs.specs.Written.{spelling}
use Rattle.spec_dimacs.specs.Examples.{SpelledExamples, HeaderExamples, FaultExamples}

pub spelled_examples : SpelledExamples
unfolding digits spelling
spelled_examples = record { tautology_keeps_its_number = refl; clause_over_two_lines = refl; carriage_returns = refl; percent_and_zero = refl; repeated_literal = refl; leading_zeros = refl; no_clause = refl; no_literal = refl; written = refl }

pub header_examples : HeaderExamples
header_examples = record { no_text = refl; comments_alone = refl; wrong_word = refl; clause_before_header = refl; negative_before_limit = refl; too_negative = refl; too_many_variables = refl; too_many_clauses = refl; header_after_clauses = refl; header_after_percent = refl }

pub fault_examples : FaultExamples
fault_examples = record { plus = refl; minus_zero = refl; first_word_counts = refl; variable_too_large = refl; number_too_large = refl; clause_missing = refl; clause_too_many = refl; not_closed = refl; beside_percent = refl; percent_twice = refl; only_the_word_zero = refl; zero_twice = refl }
