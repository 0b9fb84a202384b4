-- The passes of a row of workers, each back in its place.
use Rattle.std.proofs.Common.{◌≡◌, ℕ, suc, zero, ◌<◌, List, [], ◌∷◌, length, slice_index_or, subst, arith}
use Rattle.mal_turn.specs.declared.view.Numbers.{Numbers}
use Rattle.mal_parts.specs.Parts.{AreBack, IsBack}
use Rattle.mal_parts.specs.declared.parts.Seat.{Seat}

-- a worker's pass lies in its place again
pub record SeatBack {P : Type 0} (is_of : P → Type 0) (numbers : P → Numbers) (done : P → P → Type 0) (s t : Seat P) : Type 0 where
  pub worker : t.worker ≡ s.worker
  pub back : IsBack is_of numbers done s.pass t.pass

-- and so do all where each does
pub all-back : {P : Type 0} (is_of : P → Type 0) (numbers : P → Numbers) (done : P → P → Type 0) (ss ts : List (Seat P)) → length ts ≡ length ss → ((i : ℕ) (d : Seat P) → i < length ss → SeatBack is_of numbers done (slice_index_or ss i d) (slice_index_or ts i d)) → AreBack is_of numbers done ss ts
all-back is_of numbers done [] [] e each = tt
all-back is_of numbers done (s ∷ ss) [] e each = absurd (omega arith)
all-back is_of numbers done [] (t ∷ ts) e each = absurd (omega arith)
all-back is_of numbers done (s ∷ ss) (t ∷ ts) e each =
    let first = each zero s (omega arith) in
    (first.worker, first.back, all-back is_of numbers done ss ts (omega (arith, e)) (λ i d low. each (suc i) d (omega (arith, low))))

-- a call on a seat left it so
pub changed-back : {P : Type 0} (is_of : P → Type 0) (numbers : P → Numbers) (done : P → P → Type 0) (s t a b : Seat P) → a ≡ s → b ≡ t → (b.worker ≡ a.worker) × IsBack is_of numbers done a.pass b.pass → SeatBack is_of numbers done s t
changed-back is_of numbers done s t a b before after call =
    subst (λ (x : Seat _). SeatBack is_of numbers done x t) before (subst (λ (y : Seat _). SeatBack is_of numbers done a y) after (record { worker = call.0; back = call.1 }))
