-- The worked examples, by computation.
use Rattle.std.proofs.Common.{refl}
use Rattle.std.specs.Fmt.{digits}
use Rattle.mal_max.specs.Examples.{HasTexts}
use Rattle.mal_max.specs.Texts.{optimum_text}

pub texts : HasTexts
unfolding digits optimum_text
texts = record { best = refl; free = refl; none = refl; spent = refl; starved = refl; so_far = refl }
