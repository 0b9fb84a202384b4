-- The worked examples, by computation.
use Rattle.std.proofs.Common.{refl}
use Rattle.std.specs.Fmt.{digits}
use Rattle.mal_core.specs.Examples.{HasTexts}

pub texts : HasTexts
unfolding digits
texts = record { two = refl; none = refl; satisfied = refl; spent = refl; starved = refl }
