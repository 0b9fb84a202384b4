use Rattle.std.proofs.Common.{[], refl, arith}
use Rattle.mal_trail.proofs.TrailLemmas.{Fits-none}
use Rattle.mal_trail.proofs.PlaceLemmas.{stand-none}
use Rattle.mal_trail.proofs.trail.Trail.new.Goals as goal

pub invariant_of-result : goal.invariant_of-result
invariant_of-result c =
    rw (c.new.ensures.items, c.new-2.ensures.items) (record { fits = Fits-none; held = omega arith; wide = refl; stand = stand-none [] (λ l. refl); handled = omega arith })
