-- Lists in an order in which two elements that each lead the other are equal.
use Rattle.std.proofs.Common.{◌≡◌, ℕ, ◌+◌, ◌≤◌, Bool, true, false, cond, List, [], ◌∷◌, ◌++◌, refl, sym, ap, subst, arith}
use Rattle.std.specs.Prelude.{All, sum_by}
use Rattle.std.specs.List.Sorted.{IsPermutation}
use Rattle.std.proofs.lemmas.List.Elements.{All-head, All-tail}
use Rattle.std.proofs.lemmas.List.Sums.{sum_by-cons, sum_by_push}
use Rattle.std.proofs.lemmas.List.Sorted.{sum_by-IsPermutation}

-- each leads those after it
abbrev pub IsOrdered : {X : Type 0} → (X → X → Type 0) → List X → Type 0
IsOrdered Leads [] = Unit {0}
IsOrdered Leads (x ∷ xs) = All (Leads x) xs × IsOrdered Leads xs

-- how often an element stands in a list, by a test whether two are the same
pub times : {X : Type 0} → (X → X → Bool) → X → List X → ℕ
times same x xs = sum_by (λ y. cond (same x y) 1 0) xs

pub times-cons : {X : Type 0} (same : X → X → Bool) (x y : X) (ys : List X) → times same x (y ∷ ys) ≡ cond (same x y) 1 0 + times same x ys
unfolding times
times-cons same x y ys = sum_by-cons (λ z. cond (same x z) 1 0) y ys

pub times-push : {X : Type 0} (same : X → X → Bool) (x : X) (ys : List X) (y : X) → times same x (ys ++ y ∷ []) ≡ times same x ys + cond (same x y) 1 0
unfolding times
times-push same x ys y = sum_by_push (λ z. cond (same x z) 1 0) ys y

pub times-moved : {X : Type 0} (same : X → X → Bool) (x : X) (ys zs : List X) → IsPermutation ys zs → times same x zs ≡ times same x ys
unfolding times
times-moved same x ys zs p = sum_by-IsPermutation (λ z. cond (same x z) 1 0) ys zs p

times-nil : {X : Type 0} (same : X → X → Bool) (x : X) → times same x [] ≡ 0
unfolding times
times-nil same x = refl

module _ {X : Type 0} (same : X → X → Bool) (itself : (x : X) → same x x ≡ true) (is : (x y : X) → same x y ≡ true → x ≡ y) (Leads : X → X → Type 0) (starts : (x : X) → Leads x x) (one : (x y : X) → Leads x y → Leads y x → x ≡ y) where
  self-times : (x : X) (xs : List X) → 1 ≤ times same x (x ∷ xs)
  self-times x xs = let e = times-cons same x x xs in rw (e, itself x) (omega arith)

  -- what leads each of a list leads one that stands in it
  leads-each : (x low : X) (ys : List X) → All (Leads low) ys → 1 ≤ times same x ys → Leads low x
  leads-each x low [] h l = let none = times-nil same x in absurd (omega arith)
  leads-each x low (y ∷ ys) h l = by_here (leads-each x low ys (All-tail (Leads low) y ys h)) (same x y) refl (times-cons same x y ys)
    where
      by_here : (1 ≤ times same x ys → Leads low x) → (b : Bool) → same x y ≡ b → times same x (y ∷ ys) ≡ cond b 1 0 + times same x ys → Leads low x
      by_here f true q e = subst (λ (z : X). Leads low z) (sym (is x y q)) (All-head (Leads low) y ys h)
      by_here f false q e = f (omega arith)

  -- the first of an ordered list leads each that stands in it
  first-leads : (x y : X) (ys : List X) → IsOrdered Leads (y ∷ ys) → 1 ≤ times same x (y ∷ ys) → Leads y x
  first-leads x y ys h l = by_here (same x y) refl (times-cons same x y ys)
    where
      by_here : (b : Bool) → same x y ≡ b → times same x (y ∷ ys) ≡ cond b 1 0 + times same x ys → Leads y x
      by_here true q e = subst (λ (z : X). Leads z x) (is x y q) (starts x)
      by_here false q e = leads-each x y ys h.0 (omega arith)

  -- ordered lists of the same elements are equal
  pub ordered-same : (xs ys : List X) → IsOrdered Leads xs → IsOrdered Leads ys → ((x : X) → times same x xs ≡ times same x ys) → xs ≡ ys
  ordered-same [] [] a b h = refl
  ordered-same [] (y ∷ ys) a b h = let e : times same y [] ≡ times same y (y ∷ ys) = h y in let s = self-times y ys in let n = times-nil same y in absurd (omega arith)
  ordered-same (x ∷ xs) [] a b h = let e : times same x (x ∷ xs) ≡ times same x [] = h x in let s = self-times x xs in let n = times-nil same x in absurd (omega arith)
  ordered-same (x ∷ xs) (y ∷ ys) a b h =
      let there : Leads y x = first-leads x y ys b (let e : times same x (x ∷ xs) ≡ times same x (y ∷ ys) = h x in let s = self-times x xs in omega arith) in
      let back : Leads x y = first-leads y x xs a (let e : times same y (x ∷ xs) ≡ times same y (y ∷ ys) = h y in let s = self-times y ys in omega arith) in
      let equal : x ≡ y = one x y back there in
      cons-same x y xs ys equal (ordered-same xs ys a.1 b.1 (λ z. let e : times same z (x ∷ xs) ≡ times same z (y ∷ ys) = h z in let u = times-cons same z x xs in let w = times-cons same z y ys in let c : cond (same z x) 1 0 ≡ cond (same z y) 1 0 = ap (λ (k : X). cond {A = ℕ} (same z k) 1 0) equal in omega arith))
    where
      cons-same : (x y : X) (xs ys : List X) → x ≡ y → xs ≡ ys → x ∷ xs ≡ y ∷ ys
      cons-same x y xs ys p q = rw (p, q) refl
