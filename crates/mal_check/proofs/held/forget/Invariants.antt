use Rattle.std.proofs.Common.{◌≡◌, ℕ, ◌==◌, cond, None, length, take}
use Rattle.std.specs.List.{list_any}
use Rattle.mal_check.specs.Places.{place_in}
use Rattle.mal_check.proofs.held.forget.Given as goal

abbrev pub invariant-loop-id : goal.invariant-loop-id
invariant-loop-id l =
    ((id : ℕ) → place_in l.places id ≡ cond (list_any (λ i. i == id) (take l.id-index l.ids)) None (place_in l.fn.places id))
    × (length l.places.dense ≡ length l.fn.places.dense)
