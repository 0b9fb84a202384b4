use Rattle.std.proofs.Common.{◌≡◌, ℕ, true, ◌==◌, List, [], ◌∷◌, Option, Some, None, refl, subst, inl, inr, ◌⊎◌, arith}
use Rattle.std.specs.Prelude.{All, Contains}
use Rattle.std.specs.List.{list_any}
use Rattle.std.proofs.lemmas.Bool.{and_parts, and_from, or_cases, or_left, or_right, eqb-true, eq-eqb}
use Rattle.std.proofs.lemmas.List.Elements.{All-contains}
use Rattle.mal_base.specs.Literals.{negated}
use Rattle.mal_base.proofs.Sorting.{Contains-head, Contains-later, Contains-cases}
use Rattle.spec_logic.specs.Refutation.{contradicts, added_by}
use Rattle.spec_course.specs.Laws.{RefutedUnderMore}

-- members of a list, by test
pub member-there : (xs : List ℕ) (x : ℕ) → Contains xs x → list_any (λ y. y == x) xs ≡ true
member-there [] x (k, h, e) = absurd (omega arith)
member-there (y ∷ ys) x k = by_first (Contains-cases y ys x k) (λ m. member-there ys x m)
  where
    by_first : (y ≡ x) ⊎ Contains ys x → (Contains ys x → list_any (λ y. y == x) ys ≡ true) → list_any (λ y. y == x) (y ∷ ys) ≡ true
    by_first (inl e) rest = or_left (y == x) _ (eq-eqb y x e)
    by_first (inr m) rest = or_right (y == x) _ (rest m)

pub member-found : (xs : List ℕ) (x : ℕ) → list_any (λ y. y == x) xs ≡ true → Contains xs x
member-found [] x e = absurd (cc)
member-found (y ∷ ys) x e = by_first (or_cases (y == x) (list_any (λ y. y == x) ys) e) (λ m. member-found ys x m)
  where
    by_first : ((y == x) ≡ true) ⊎ (list_any (λ y. y == x) ys ≡ true) → (list_any (λ y. y == x) ys ≡ true → Contains ys x) → Contains (y ∷ ys) x
    by_first (inl q) rest = subst (λ (n : ℕ). Contains (y ∷ ys) n) (eqb-true y x q) (Contains-head y ys)
    by_first (inr m) rest = Contains-later y ys x (rest m)

more-there : (some more : List ℕ) (x : ℕ) → All (Contains more) some → list_any (λ y. y == x) some ≡ true → list_any (λ y. y == x) more ≡ true
more-there some more x h e = member-there more x (All-contains (Contains more) some x h (member-found some x e))

-- what contradicts some assumptions contradicts more
contradicts-more : (some more : List ℕ) (c : Option (List ℕ)) → All (Contains more) some → contradicts some c ≡ true → contradicts more c ≡ true
contradicts-more some more None h e = e
contradicts-more some more (Some []) h e = refl
contradicts-more some more (Some (l ∷ ls)) h e =
    let both = and_parts (list_any (λ a. a == negated l) some) (contradicts some (Some ls)) e in
    and_from (list_any (λ a. a == negated l) more) (contradicts more (Some ls)) (more-there some more (negated l) h both.0) (contradicts-more some more (Some ls) h both.1)

goal-more : (some more : List ℕ) (cs : List (Option (List ℕ))) → All (Contains more) some → list_any (contradicts some) cs ≡ true → list_any (contradicts more) cs ≡ true
goal-more some more [] h e = e
goal-more some more (c ∷ cs) h e = by_first (or_cases (contradicts some c) (list_any (contradicts some) cs) e) (λ m. goal-more some more cs h m)
  where
    by_first : (contradicts some c ≡ true) ⊎ (list_any (contradicts some) cs ≡ true) → (list_any (contradicts some) cs ≡ true → list_any (contradicts more) cs ≡ true) → list_any (contradicts more) (c ∷ cs) ≡ true
    by_first (inl q) rest = or_left (contradicts more c) (list_any (contradicts more) cs) (contradicts-more some more c h q)
    by_first (inr m) rest = or_right (contradicts more c) (list_any (contradicts more) cs) (rest m)

pub refuted-under-more : RefutedUnderMore
refuted-under-more clauses some more lines h r = record { proof = r.proof; goal = goal-more some more (added_by lines) h r.goal }
