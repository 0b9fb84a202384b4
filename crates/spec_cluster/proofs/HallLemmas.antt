-- A cluster with another history in a hall.
use Rattle.std.proofs.Common.{◌≡◌, ◌≢◌, ℕ, zero, suc, ◌+◌, ◌<◌, Bool, true, false, cond, List, [], ◌∷◌, length, slice_set, Option, Some, None, option_map, inl, inr, refl, sym, ◌∙◌, ap, subst, arith}
use Rattle.std.specs.List.{list_any}
use Rattle.std.proofs.lemmas.Bool.{both_ways, cases_eq}
use Rattle.std.proofs.lemmas.List.{get_or-set_same, get_or-set_other}
use Rattle.spec_job.specs.KeyedJob.{Key}
use Rattle.spec_hall.specs.Events.{Event}
use Rattle.spec_cluster.specs.Clusters.{home, is_there}
use Rattle.spec_cluster.specs.Visits.{hall_at, opened_in, opens}

-- what holds of the other history and of those of the other halls holds of all
pub at-hall : (halls : List (List Event)) (n : ℕ) (h : List Event) → n < length halls → (P : ℕ → List Event → Type 0) → P n h → ((m : ℕ) → m ≢ n → P m (hall_at halls m)) → (m : ℕ) → P m (hall_at (slice_set halls n h) m)
at-hall halls n h within P here others m = elim (cases_eq m n) [ inl same ↦ subst (λ (x : ℕ). P x (hall_at (slice_set halls n h) x)) (sym same) (subst (P n) (sym (get_or-set_same halls n h [] within)) here) | inr other ↦ subst (P m) (sym (get_or-set_other halls n m h [] other)) (others m other) ]

-- where a job was opened stays
pub opened-same : (k : Key) (halls : List (List Event)) (n : ℕ) (h : List Event) → list_any (opens k) h ≡ list_any (opens k) (hall_at halls n) → opened_in k (slice_set halls n h) ≡ opened_in k halls
opened-same k [] n h same = refl
opened-same k (x ∷ xs) zero h same = ap (λ (b : Bool). cond b 0 (opened_in k xs + 1)) same
opened-same k (x ∷ xs) (suc n) h same = ap (λ (m : ℕ). cond (list_any (opens k) x) 0 (m + 1)) (opened-same k xs n h same)

-- a job was opened in the only hall that opened it
pub opened-at : (k : Key) (halls : List (List Event)) (n : ℕ) → list_any (opens k) (hall_at halls n) ≡ true → ((m : ℕ) → m ≢ n → list_any (opens k) (hall_at halls m) ≡ false) → opened_in k halls ≡ n
opened-at k [] n here others = absurd (both_ways false refl here)
opened-at k (x ∷ xs) zero here others = ap (λ (b : Bool). cond b 0 (opened_in k xs + 1)) here
opened-at k (x ∷ xs) (suc n) here others =
    ap (λ (b : Bool). cond b 0 (opened_in k xs + 1)) (others 0 (zero-other n))
    ∙ (ap (λ (m : ℕ). m + 1) (opened-at k xs n here (λ m other. others (suc m) (suc-other m n other))) ∙ add-one n)
  where
    zero-other : (m : ℕ) → zero ≢ suc m
    zero-other m q = omega arith

    suc-other : (a b : ℕ) → a ≢ b → suc a ≢ suc b
    suc-other a b other q = other (omega (arith, q))

    add-one : (m : ℕ) → m + 1 ≡ suc m
    add-one m = omega arith

-- the hall that has a job is one of these and has it
pub record IsHome (k : Key) (halls : List (List Event)) (n : ℕ) : Type 0 where
  pub within : n < length halls
  pub there : is_there k (hall_at halls n) ≡ true

pub home-found : (k : Key) (halls : List (List Event)) (n : ℕ) → home k halls ≡ Some n → IsHome k halls n
home-found k [] n found = absurd (cc)
home-found k (h ∷ hs) n found = by_test (home-found k hs) (is_there k h) refl found
  where
    add-one : (a : ℕ) → suc a ≡ a + 1
    add-one a = omega arith

    behind : ((m : ℕ) → home k hs ≡ Some m → IsHome k hs m) → (rest : Option ℕ) → home k hs ≡ rest → option_map (λ (m : ℕ). m + 1) rest ≡ Some n → IsHome k (h ∷ hs) n
    behind found None q e = absurd (cc)
    behind found (Some m) q e =
        let is = found m q in
        let within = is.within in
        let next : m + 1 ≡ n = cc in
        subst (IsHome k (h ∷ hs)) (add-one m ∙ next) (record { within = omega (arith, within); there = is.there })

    by_test : ((m : ℕ) → home k hs ≡ Some m → IsHome k hs m) → (b : Bool) → is_there k h ≡ b → cond b (Some 0) (option_map (λ (m : ℕ). m + 1) (home k hs)) ≡ Some n → IsHome k (h ∷ hs) n
    by_test found true q e =
        let same : 0 ≡ n = cc in
        subst (IsHome k (h ∷ hs)) same (record { within = omega arith; there = q })
    by_test found false q e = behind found (home k hs) refl e

-- where none has it, each lacks it
pub home-none : (k : Key) (halls : List (List Event)) → home k halls ≡ None → (n : ℕ) → is_there k (hall_at halls n) ≡ false
home-none k [] none n = refl
home-none k (h ∷ hs) none n = by_test (home-none k hs) (is_there k h) refl none n
  where
    behind : (rest : Option ℕ) → home k hs ≡ rest → option_map (λ (m : ℕ). m + 1) rest ≡ None → home k hs ≡ None
    behind None q e = q
    behind (Some m) q e = absurd (cc)

    by_test : (home k hs ≡ None → (m : ℕ) → is_there k (hall_at hs m) ≡ false) → (b : Bool) → is_there k h ≡ b → cond b (Some 0) (option_map (λ (m : ℕ). m + 1) (home k hs)) ≡ None → (m : ℕ) → is_there k (hall_at (h ∷ hs) m) ≡ false
    by_test rest true q e m = absurd (cc)
    by_test rest false q e zero = q
    by_test rest false q e (suc m) = rest (behind (home k hs) refl e) m
