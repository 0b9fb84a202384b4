use Rattle.std.proofs.Common.{refl}
use Rattle.std.specs.Fmt.{digits}
use Rattle.mal_max.specs.InputExamples.{HasInputs}

pub inputs : HasInputs
unfolding digits
inputs = record { softs = refl; none = refl; in_order = refl; no_line = refl; formula_first = refl; not_closed = refl; out_of_range = refl; too_many = refl; variables = refl; second_line = refl; no_line_told = refl; range_told = refl; too_many_told = refl }
