use Rattle.std.proofs.Common.{◌≡◌, ℕ, ◌+◌, ◌<◌, ◌≤◌, Bool, true, false, cond, List, [], ◌∷◌, Some, None, Option, refl, sym, ap, ◌∙◌, subst, arith, inl, inr, ◌⊎◌, zero, suc}
use Rattle.std.specs.Prelude.{All, find}
use Rattle.std.proofs.lemmas.List.Elements.{All-nil, All-cons, All-head, All-tail, All-weaker}
use Rattle.std.proofs.lemmas.Bool.{cases_order}
use Rattle.mal_base.specs.Literals.{var_of, literal}
use Rattle.spec_node.specs.Load.{counted}

-- what is found passes the test, and what holds of all holds of it; where nothing is found all fail
pub find-passes : {X : Type 0} (test : X → Bool) (xs : List X) (x : X) → find test xs ≡ Some x → test x ≡ true
find-passes test [] x e = absurd (cc)
find-passes {X} test (y ∷ ys) x e = by_test (find-passes test ys x) (test y) refl e
  where
    by_test : (find test ys ≡ Some x → test x ≡ true) → (b : Bool) → test y ≡ b → cond b (Some y) (find test ys) ≡ Some x → test x ≡ true
    by_test f true t k = let same : y ≡ x = cc in ap test (sym same) ∙ t
    by_test f false t k = f k

pub find-All : {X : Type 0} (P : X → Type 0) (test : X → Bool) (xs : List X) (x : X) → All P xs → find test xs ≡ Some x → P x
find-All P test [] x h e = absurd (cc)
find-All {X} P test (y ∷ ys) x h e = by_test (find-All P test ys x (All-tail P y ys h)) (test y) e
  where
    by_test : (find test ys ≡ Some x → P x) → (b : Bool) → cond b (Some y) (find test ys) ≡ Some x → P x
    by_test f true k = let same : y ≡ x = cc in rw (← same) (All-head P y ys h)
    by_test f false k = f k

pub find-none : {X : Type 0} (test : X → Bool) (xs : List X) → find test xs ≡ None → All (λ x. test x ≡ false) xs
find-none test [] e = All-nil (λ x. test x ≡ false)
find-none {X} test (y ∷ ys) e = by_test (find-none test ys) (test y) refl e
  where
    by_test : (find test ys ≡ None → All (λ (x : X). test x ≡ false) ys) → (b : Bool) → test y ≡ b → cond {A = Option X} b (Some y) (find test ys) ≡ None → All (λ (x : X). test x ≡ false) (y ∷ ys)
    by_test f true t k = absurd (cc)
    by_test f false t k = All-cons (λ (x : X). test x ≡ false) y ys t (f k)

-- the variable of a literal
pub var_of-literal : (v : ℕ) (b : Bool) → var_of (literal v b) ≡ v
var_of-literal v true = omega arith
var_of-literal v false = omega arith

-- the numbers counted from one on
pub record IsBetween (first past v : ℕ) : Type 0 where
  pub from : first ≤ v
  pub below : v < past

counted-wider : (first n : ℕ) (v : ℕ) → IsBetween (first + 1) (first + 1 + n) v → IsBetween first (first + suc n) v
counted-wider first n v h = record { from = let a : first + 1 ≤ v = h.from in omega arith; below = let b : v < first + 1 + n = h.below in omega arith }

pub counted-All : (first n : ℕ) → All (IsBetween first (first + n)) (counted first n)
counted-All first zero = All-nil (IsBetween first (first + 0))
counted-All first (suc n) = All-cons (IsBetween first (first + suc n)) first (counted (first + 1) n) (record { from = omega arith; below = omega arith }) (All-weaker (IsBetween (first + 1) (first + 1 + n)) (IsBetween first (first + suc n)) (counted-wider first n) (counted (first + 1) n) (counted-All (first + 1) n))

-- what holds of all numbers counted holds of each of them
pub counted-at : (P : ℕ → Type 0) (first n v : ℕ) → All P (counted first n) → first ≤ v → v < first + n → P v
counted-at P first zero v h low high = absurd (omega arith)
counted-at P first (suc n) v h low high = by_first (counted-at P (first + 1) n v (All-tail P first (counted (first + 1) n) h)) (cases_order first v)
  where
    by_first : (first + 1 ≤ v → v < first + 1 + n → P v) → (first ≡ v) ⊎ ((first < v) ⊎ (v < first)) → P v
    by_first f (inl q) = subst P q (All-head P first (counted (first + 1) n) h)
    by_first f (inr (inl l)) = f (omega arith) (omega arith)
    by_first f (inr (inr l)) = absurd (omega arith)
