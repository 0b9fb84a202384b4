use Rattle.std.proofs.Common.{refl}
use Rattle.spec_core.specs.Examples.{HasSearches}

pub searches : HasSearches
searches = record { two = (refl, (refl, (refl, refl))); none = (refl, refl); smaller = (refl, (refl, (refl, (refl, refl)))); satisfied = (refl, refl); starved = (refl, (refl, refl)) }
