-- The places of a machine: where one is set, and after an exchange, which moves marks alone.
use Rattle.std.proofs.Common.{◌≡◌, ℕ, zero, suc, ◌+◌, ◌≤◌, Bool, true, false, cond, List, [], ◌∷◌, length, get_or, refl, sym, ap, subst, ◌<◌, replicate, Some, inl, inr, ◌⊎◌, arith}
use Rattle.spec_job.specs.SoloMachine.{NodeSlot, vacant, takes_part, marked_from, Lease}
use Rattle.std.specs.Prelude.{slice_set}

-- the place at an index has its mark moved, or not
pub marked-place : (volume mark k : ℕ) (ps : List NodeSlot) (i : ℕ) → (m : ℕ) × (get_or (marked_from volume mark k ps) i vacant ≡ record (get_or ps i vacant) { mark = m })
marked-place volume mark k [] i = (0, refl)
marked-place volume mark k (p ∷ ps) zero = by_part (takes_part volume k p)
  where
    by_part : (b : Bool) → (m : ℕ) × (cond b (record p { mark = mark }) p ≡ record p { mark = m })
    by_part true = (mark, refl)
    by_part false = (p.mark, refl)
marked-place volume mark k (p ∷ ps) (suc i) = marked-place volume mark (k + 1) ps i

pub marked-length : (volume mark k : ℕ) (ps : List NodeSlot) → length (marked_from volume mark k ps) ≡ length ps
marked-length volume mark k [] = refl
marked-length volume mark k (p ∷ ps) = ap (λ (n : ℕ). suc n) (marked-length volume mark (k + 1) ps)

-- what holds of each place, whatever its mark, holds after an exchange
pub all-marked : (P : ℕ → NodeSlot → Type 0) → ((i m : ℕ) (p : NodeSlot) → P i p → P i (record p { mark = m })) → (volume mark : ℕ) (ps : List NodeSlot) → ((i : ℕ) → i ≤ 63 → P i (get_or ps i vacant)) → (i : ℕ) → i ≤ 63 → P i (get_or (marked_from volume mark 0 ps) i vacant)
all-marked P any volume mark ps h i low = by_mark (marked-place volume mark 0 ps i)
  where
    by_mark : (m : ℕ) × (get_or (marked_from volume mark 0 ps) i vacant ≡ record (get_or ps i vacant) { mark = m }) → P i (get_or (marked_from volume mark 0 ps) i vacant)
    by_mark (m, e) = subst (λ (p : NodeSlot). P i p) (sym e) (any i m (get_or ps i vacant) (h i low))

pub get-vacant : (n i : ℕ) → get_or (replicate n vacant) i vacant ≡ vacant
get-vacant zero i = refl
get-vacant (suc n) zero = refl
get-vacant (suc n) (suc i) = get-vacant n i

-- the place at an index after one is set: it is the one set, or as before
pub set-place : (ps : List NodeSlot) (i j : ℕ) (p : NodeSlot) → ((j ≡ i) × (get_or (slice_set ps i p) j vacant ≡ p)) ⊎ (get_or (slice_set ps i p) j vacant ≡ get_or ps j vacant)
set-place [] i j p = inr refl
set-place (q ∷ qs) zero zero p = inl (refl, refl)
set-place (q ∷ qs) zero (suc j) p = inr refl
set-place (q ∷ qs) (suc i) zero p = inr refl
set-place (q ∷ qs) (suc i) (suc j) p = by_place (set-place qs i j p)
  where
    by_place : ((j ≡ i) × (get_or (slice_set qs i p) j vacant ≡ p)) ⊎ (get_or (slice_set qs i p) j vacant ≡ get_or qs j vacant) → ((suc j ≡ suc i) × (get_or (slice_set qs i p) j vacant ≡ p)) ⊎ (get_or (slice_set qs i p) j vacant ≡ get_or qs j vacant)
    by_place (inl k) = inl (ap (λ (n : ℕ). suc n) k.0, k.1)
    by_place (inr k) = inr k

-- a start is out at a place that there is
pub out-within : (ps : List NodeSlot) (i : ℕ) (l : Lease) → (get_or ps i vacant).out ≡ Some l → i < length ps
out-within [] i l e = absurd (cc)
out-within (p ∷ ps) zero l e = omega arith
out-within (p ∷ ps) (suc i) l e = let u : i < length ps = out-within ps i l e in omega arith

pub set-here : (ps : List NodeSlot) (i : ℕ) (p : NodeSlot) → i < length ps → get_or (slice_set ps i p) i vacant ≡ p
set-here [] i p low = absurd (omega arith)
set-here (q ∷ qs) zero p low = refl
set-here (q ∷ qs) (suc i) p low = set-here qs i p (omega arith)
