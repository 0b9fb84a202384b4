-- Sums over the places of a machine, one of which is set.
use Rattle.std.proofs.Common.{◌≡◌, ℕ, zero, suc, ◌+◌, ◌<◌, ◌≤◌, Bool, true, false, cond, List, [], ◌∷◌, length, get_or, refl, ap, arith}
use Rattle.std.specs.Prelude.{slice_set, sum_by}
use Rattle.std.proofs.lemmas.List.Sums.{sum_by-cons}
use Rattle.spec_job.specs.SoloMachine.{NodeSlot, vacant, takes_part, marked_from}

pub sum-set : (g : NodeSlot → ℕ) (ps : List NodeSlot) (i : ℕ) (q : NodeSlot) → i < length ps → sum_by g (slice_set ps i q) + g (get_or ps i vacant) ≡ sum_by g ps + g q
sum-set g [] i q low = absurd (omega arith)
sum-set g (p ∷ ps) zero q low = let new : sum_by g (q ∷ ps) ≡ g q + sum_by g ps = sum_by-cons g q ps in let old : sum_by g (p ∷ ps) ≡ g p + sum_by g ps = sum_by-cons g p ps in omega arith
sum-set g (p ∷ ps) (suc i) q low =
    let rest : sum_by g (slice_set ps i q) + g (get_or ps i vacant) ≡ sum_by g ps + g q = sum-set g ps i q (omega arith) in
    let new : sum_by g (p ∷ slice_set ps i q) ≡ g p + sum_by g (slice_set ps i q) = sum_by-cons g p (slice_set ps i q) in
    let old : sum_by g (p ∷ ps) ≡ g p + sum_by g ps = sum_by-cons g p ps in
    omega arith

-- a place that there is not is not set
pub set-beyond : (ps : List NodeSlot) (i : ℕ) (q : NodeSlot) → length ps ≤ i → slice_set ps i q ≡ ps
set-beyond [] i q high = refl
set-beyond (p ∷ ps) zero q high = absurd (omega arith)
set-beyond (p ∷ ps) (suc i) q high = ap (λ (xs : List NodeSlot). p ∷ xs) (set-beyond ps i q (omega arith))

-- marks do not matter
pub sum-marked : (g : NodeSlot → ℕ) → ((m : ℕ) (p : NodeSlot) → g (record p { mark = m }) ≡ g p) → (volume mark k : ℕ) (ps : List NodeSlot) → sum_by g (marked_from volume mark k ps) ≡ sum_by g ps
sum-marked g any volume mark k [] = refl
sum-marked g any volume mark k (p ∷ ps) = by_head (cond (takes_part volume k p) (record p { mark = mark }) p) (by_part (takes_part volume k p)) (sum-marked g any volume mark (k + 1) ps)
  where
    by_part : (b : Bool) → g (cond b (record p { mark = mark }) p) ≡ g p
    by_part true = any mark p
    by_part false = refl

    by_head : (q : NodeSlot) → g q ≡ g p → sum_by g (marked_from volume mark (k + 1) ps) ≡ sum_by g ps → sum_by g (q ∷ marked_from volume mark (k + 1) ps) ≡ sum_by g (p ∷ ps)
    by_head q e rest =
        let new : sum_by g (q ∷ marked_from volume mark (k + 1) ps) ≡ g q + sum_by g (marked_from volume mark (k + 1) ps) = sum_by-cons g q (marked_from volume mark (k + 1) ps) in
        let old : sum_by g (p ∷ ps) ≡ g p + sum_by g ps = sum_by-cons g p ps in
        omega arith

-- a sum of nothing
pub sum-none : (g : NodeSlot → ℕ) (ps : List NodeSlot) → ((i : ℕ) → i < length ps → g (get_or ps i vacant) ≡ 0) → sum_by g ps ≡ 0
sum-none g [] h = refl
sum-none g (p ∷ ps) h =
    let here : g p ≡ 0 = h 0 (omega arith) in
    let rest : sum_by g ps ≡ 0 = sum-none g ps (λ i low. h (suc i) (omega arith)) in
    let all : sum_by g (p ∷ ps) ≡ g p + sum_by g ps = sum_by-cons g p ps in
    omega arith
