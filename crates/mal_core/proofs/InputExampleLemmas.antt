use Rattle.std.proofs.Common.{refl}
use Rattle.std.specs.Fmt.{digits}
use Rattle.mal_core.specs.InputExamples.{HasInputs}

pub inputs : HasInputs
unfolding digits
inputs = record { assumed = refl; none = refl; merged = refl; no_line = refl; formula_first = refl; not_closed = refl; out_of_range = refl; opposite = refl; second_line = refl; no_line_told = refl; opposite_told = refl; too_many_told = refl }
