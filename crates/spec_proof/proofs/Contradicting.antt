-- Literals contradict their negations, and no others than negations of assumptions contradict those.
use Rattle.std.proofs.Common.{◌≡◌, ℕ, Bool, true, List, [], ◌∷◌, ◌==◌, Contains, length, map, Some, refl, subst, inl, inr, ◌⊎◌, arith}
use Rattle.std.specs.Prelude.{All}
use Rattle.std.specs.List.{list_any, list_all}
use Rattle.std.proofs.lemmas.Bool.{eqb-true, eq-eqb, and_parts, and_from, or_cases, or_left, or_right}
use Rattle.std.proofs.lemmas.List.Elements.{All-nil, All-cons}
use Rattle.mal_base.specs.Literals.{negated}
use Rattle.mal_base.proofs.Sorting.{Contains-head, Contains-later, Contains-cases}
use Rattle.spec_logic.specs.Refutation.{contradicts}

member-there : (xs : List ℕ) (x : ℕ) → Contains xs x → list_any (λ a. a == x) xs ≡ true
member-there [] x (k, h, e) = absurd (omega arith)
member-there (y ∷ ys) x k = by_first (Contains-cases y ys x k) (λ m. member-there ys x m)
  where
    by_first : (y ≡ x) ⊎ Contains ys x → (Contains ys x → list_any (λ a. a == x) ys ≡ true) → list_any (λ a. a == x) (y ∷ ys) ≡ true
    by_first (inl e) rest = or_left (y == x) _ (eq-eqb y x e)
    by_first (inr m) rest = or_right (y == x) _ (rest m)

member-found : (xs : List ℕ) (x : ℕ) → list_any (λ a. a == x) xs ≡ true → Contains xs x
member-found [] x e = absurd (cc)
member-found (y ∷ ys) x e = by_first (or_cases (y == x) (list_any (λ a. a == x) ys) e) (λ m. member-found ys x m)
  where
    by_first : ((y == x) ≡ true) ⊎ (list_any (λ a. a == x) ys ≡ true) → (list_any (λ a. a == x) ys ≡ true → Contains ys x) → Contains (y ∷ ys) x
    by_first (inl q) rest = subst (λ (n : ℕ). Contains (y ∷ ys) n) (eqb-true y x q) (Contains-head y ys)
    by_first (inr m) rest = Contains-later y ys x (rest m)

contradicts-all : (given lits : List ℕ) → ((l : ℕ) → Contains lits l → Contains given (negated l)) → list_all (λ l. list_any (λ a. a == negated l) given) lits ≡ true
contradicts-all given [] h = refl
contradicts-all given (x ∷ xs) h = and_from _ _ (member-there given (negated x) (h x (Contains-head x xs))) (contradicts-all given xs (λ l k. h l (Contains-later x xs l k)))

negated-there : (lits : List ℕ) (l : ℕ) → Contains lits l → Contains (map negated lits) (negated l)
negated-there [] l (k, h, e) = absurd (omega arith)
negated-there (x ∷ xs) l k = by_first (Contains-cases x xs l k) (λ m. negated-there xs l m)
  where
    by_first : (x ≡ l) ⊎ Contains xs l → (Contains xs l → Contains (map negated xs) (negated l)) → Contains (negated x ∷ map negated xs) (negated l)
    by_first (inl e) rest = subst (λ (n : ℕ). Contains (negated x ∷ map negated xs) (negated n)) e (Contains-head (negated x) (map negated xs))
    by_first (inr m) rest = Contains-later (negated x) (map negated xs) (negated l) (rest m)

pub contradicts-own : (lits : List ℕ) → contradicts (map negated lits) (Some lits) ≡ true
contradicts-own lits = contradicts-all (map negated lits) lits (negated-there lits)

pub contradicts-members : (given lits : List ℕ) → contradicts given (Some lits) ≡ true → All (Contains given) (map negated lits)
contradicts-members given [] e = All-nil (Contains given)
contradicts-members given (x ∷ xs) e =
    let parts = and_parts (list_any (λ a. a == negated x) given) (list_all (λ l. list_any (λ a. a == negated l) given) xs) e in
    All-cons (Contains given) (negated x) (map negated xs) (member-found given (negated x) parts.0) (contradicts-members given xs parts.1)
