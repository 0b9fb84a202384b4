use Rattle.std.proofs.Common.{◌≡◌, ℕ, ◌+◌, ◌-◌, ◌<◌, ◌≤◌, Bool, true, false, List, [], ◌∷◌, ◌++◌, length, map, reverse, eqb, refl, sym, ap, ◌∙◌, subst, append_assoc, append-nil, inl, inr, ◌⊎◌, arith}
use Rattle.std.specs.Prelude.{◌==◌, ◌||◌}
use Rattle.std.specs.List.{list_any, IsDistinct, AllByRecursion}
use Rattle.std.proofs.lemmas.List.{reverse-append, length-map}
use Rattle.std.proofs.lemmas.List.Folds.{list_any-append}
use Rattle.std.proofs.lemmas.Bool.{eqb-true, ne_eqb, or_parts, or_cases}
use Rattle.std.proofs.lemmas.Map.Steps.{length-le_from_distinct_below}
use Rattle.mal_base.specs.Literals.{var_of}
use Rattle.mal_base.specs.declared.trail_entry.TrailEntry.{TrailEntry}
use Rattle.spec_node.specs.Value.{has_value}
use Rattle.spec_node.specs.Sound.{EachAfter, IsPlaced}

-- variables of entries differ and are below a bound
abbrev pub IsApart : ℕ → List TrailEntry → Type 0
IsApart n [] = Unit {0}
IsApart n (e ∷ past) = (has_value past (var_of e.lit) ≡ false) × (1 ≤ var_of e.lit) × (var_of e.lit < n) × IsApart n past

-- placed entries, latest first
apart-behind : (n : ℕ) (es before past : List TrailEntry) → EachAfter (IsPlaced (n - 1)) before es → 1 ≤ n → ((v : ℕ) → has_value before v ≡ has_value past v) → IsApart n past → IsApart n (reverse es ++ past)
apart-behind n [] before past h l same a = a
apart-behind n (e ∷ es) before past h l same a =
    subst (IsApart n) (sym (ap (λ (xs : List TrailEntry). xs ++ past) (reverse-append (e ∷ []) es) ∙ append_assoc (reverse es) (e ∷ []) past))
    (apart-behind n es (before ++ e ∷ []) (e ∷ past) h.1 l (λ v. list_any-append (λ x. v == var_of x.lit) before (e ∷ []) ∙ turn (has_value before v) (v == var_of e.lit) (has_value past v) (same v))
    (sym (same (var_of e.lit)) ∙ h.0.free, h.0.low, (let u : var_of e.lit ≤ n - 1 = h.0.high in omega arith), a))
  where
    turn : (x y z : Bool) → x ≡ z → (x || (y || false)) ≡ (y || z)
    turn true true z q = refl
    turn true false z q = q
    turn false true z q = refl
    turn false false z q = q

pub apart-reverse : (n : ℕ) (es : List TrailEntry) → 1 ≤ n → EachAfter (IsPlaced (n - 1)) [] es → IsApart n (reverse es)
apart-reverse n es l h = subst (IsApart n) (append-nil (reverse es)) (apart-behind n es [] [] h l (λ v. refl) tt)

-- as many entries as variables at most
apart-distinct : (n : ℕ) (past : List TrailEntry) → IsApart n past → IsDistinct eqb (map (λ e. var_of e.lit) past)
unfolding IsDistinct
apart-distinct n [] a = tt
apart-distinct n (e ∷ past) a = (others past a.0, apart-distinct n past a.3)
  where
    others : (xs : List TrailEntry) → has_value xs (var_of e.lit) ≡ false → AllByRecursion (λ (y : ℕ). eqb (var_of e.lit) y ≡ false) (map (λ x. var_of x.lit) xs)
    others [] q = tt
    others (x ∷ xs) q = let parts = or_parts (var_of e.lit == var_of x.lit) (has_value xs (var_of e.lit)) q in (parts.0, others xs parts.1)

apart-zero : (n : ℕ) (past : List TrailEntry) → IsApart n past → AllByRecursion (λ (y : ℕ). eqb 0 y ≡ false) (map (λ x. var_of x.lit) past)
apart-zero n [] a = tt
apart-zero n (e ∷ past) a = (ne_eqb 0 (var_of e.lit) (λ q. let low : 1 ≤ var_of e.lit = a.1 in absurd (omega arith)), apart-zero n past a.3)

apart-below : (n : ℕ) (past : List TrailEntry) → IsApart n past → (q : ℕ) → list_any (eqb q) (map (λ x. var_of x.lit) past) ≡ true → q < n
apart-below n [] a q h = absurd (cc)
apart-below n (e ∷ past) a q h = by_place (apart-below n past a.3 q) (or_cases (eqb q (var_of e.lit)) (list_any (eqb q) (map (λ (x : TrailEntry). var_of x.lit) past)) h)
  where
    by_place : (list_any (eqb q) (map (λ (x : TrailEntry). var_of x.lit) past) ≡ true → q < n) → (eqb q (var_of e.lit) ≡ true) ⊎ (list_any (eqb q) (map (λ (x : TrailEntry). var_of x.lit) past) ≡ true) → q < n
    by_place f (inl k) = let same : q ≡ var_of e.lit = eqb-true q (var_of e.lit) k in let u : var_of e.lit < n = a.2 in omega arith
    by_place f (inr k) = f k

pub apart-short : (n : ℕ) (past : List TrailEntry) → 1 ≤ n → IsApart n past → length past + 1 ≤ n
unfolding IsDistinct
apart-short n past l a =
    let vars : List ℕ = map (λ (e : TrailEntry). var_of e.lit) past in
    let short : length (0 ∷ vars) ≤ n = length-le_from_distinct_below (0 ∷ vars) n (apart-zero n past a, apart-distinct n past a) below in
    let long : length vars ≡ length past = length-map past (λ e. var_of e.lit) in
    omega arith
  where
    below : (q : ℕ) → list_any (eqb q) (0 ∷ map (λ (e : TrailEntry). var_of e.lit) past) ≡ true → q < n
    below q h = by_place (or_cases (eqb q 0) (list_any (eqb q) (map (λ (e : TrailEntry). var_of e.lit) past)) h)
      where
        by_place : (eqb q 0 ≡ true) ⊎ (list_any (eqb q) (map (λ (e : TrailEntry). var_of e.lit) past) ≡ true) → q < n
        by_place (inl k) = let same : q ≡ 0 = eqb-true q 0 k in omega arith
        by_place (inr k) = apart-below n past a q k
