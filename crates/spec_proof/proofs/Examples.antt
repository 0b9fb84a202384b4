use Rattle.std.proofs.Common.{refl}
use Rattle.spec_proof.specs.Examples.{HasTrims, HasRefutations}

pub trims : HasTrims
trims = record { both_signs = refl; empty_original = refl; needed = refl; four_clauses = refl; other_goal = refl; no_goal = refl; rising = refl }

pub refutations : HasRefutations
refutations = record { derived = (refl, (refl, (refl, tt))); refuted = record { proof = (refl, (refl, tt)); goal = refl } }
