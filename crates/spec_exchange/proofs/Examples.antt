use Rattle.std.proofs.Common.{refl}
use Rattle.spec_exchange.specs.Examples.{HasExamples}

pub examples : HasExamples
examples = record { once = refl; shorter_first = refl; by_literals = refl; fits_exactly = refl; one_too_many = refl }
