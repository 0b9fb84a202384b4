use Rattle.std.proofs.Common.{refl}
use Rattle.std.specs.Fmt.{digits}
use Rattle.mal_instance.specs.Examples.{HasExamples}

pub examples : HasExamples
unfolding digits
examples = record { none = refl; merged = refl; passed_after = refl; no_line = refl; no_line_first = refl; formula_first = refl; formula_ends = refl; no_formula = refl; bad_line = refl; not_closed = refl; out_of_range = refl; opposite = refl; too_many = refl; line_after = refl; second_line = refl; no_line_told = refl; fault_told = refl; too_many_told = refl }
