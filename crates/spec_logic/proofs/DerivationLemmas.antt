use Rattle.std.proofs.Common.{◌≡◌, ℕ, ◌+◌, ◌-◌, ◌/◌, ◌%◌, Bool, true, false, cond, not, eqb, List, [], ◌∷◌, ◌==◌, map, Option, Some, None, refl, ◌∙◌, inl, inr, ◌⊎◌, arith}
use Rattle.std.specs.List.{list_any}
use Rattle.std.proofs.lemmas.Bool.{eqb-true, eqb-false, ne_eqb, eq-eqb, or_cases, or_parts, or_left, or_right, false_from_ne_true, not_from_true, not_from_false, true_from_ne_false, both_ways}
use Rattle.mal_base.specs.Literals.{negated}
use Rattle.spec_logic.specs.Logic.{is_true_in, value_of, satisfies_clause}
use Rattle.spec_logic.specs.Derivation.{Holding, Effect, is_true, is_false, left_of, effect_of, effect_of_left, trues_after, ends_or, propagation}
use Rattle.spec_logic.specs.Derivation.Effect.{Missing, Passes, Makes, Conflicts, LeavesMore}
use Rattle.spec_logic.specs.Derivation.Derivation.{Derived}
use Rattle.spec_logic.specs.Laws.{DerivedIsEntailed, DerivedIsSatisfied}

not_not : (b : Bool) → b ≡ not (not b)
not_not true = refl
not_not false = refl

-- the negation of a literal has the other value
pub negated-value : (a : List Bool) (l : ℕ) → is_true_in a (negated l) ≡ not (is_true_in a l)
negated-value a l = by_sign (l % 2 == 0) refl
  where
    by_sign : (b : Bool) → (l % 2 == 0) ≡ b → is_true_in a (cond b (l + 1) (l - 1)) ≡ not (cond b (value_of a (l / 2)) (not (value_of a (l / 2))))
    by_sign true e =
        let even = eqb-true (l % 2) 0 e in
        let odd : eqb ((l + 1) % 2) 0 ≡ false = ne_eqb ((l + 1) % 2) 0 (λ q. omega arith) in
        let half : (l + 1) / 2 ≡ l / 2 = omega arith in
        rw (odd, half) refl
    by_sign false e =
        let odd = eqb-false (l % 2) 0 e in
        let even : eqb ((l - 1) % 2) 0 ≡ true = eq-eqb ((l - 1) % 2) 0 (omega arith) in
        let half : (l - 1) / 2 ≡ l / 2 = omega arith in
        rw (even, half) (not_not (value_of a (l / 2)))

-- the literals that are true so far are true under the assignment
abbrev pub AreTrue : List Bool → List ℕ → Type 0
AreTrue a trues = (l : ℕ) → is_true trues l ≡ true → is_true_in a l ≡ true

-- the negations of false literals are true
pub negations-true : (a : List Bool) (lits : List ℕ) → list_any (is_true_in a) lits ≡ false → AreTrue a (map negated lits)
negations-true a [] f l h = absurd (cc)
negations-true a (k ∷ ks) f l h = by_first (λ e. negations-true a ks (or_parts (is_true_in a k) (list_any (is_true_in a) ks) f).1 l e) (or_cases (negated k == l) (is_true (map negated ks) l) h)
  where
    by_first : (is_true (map negated ks) l ≡ true → is_true_in a l ≡ true) → ((negated k == l) ≡ true) ⊎ (is_true (map negated ks) l ≡ true) → is_true_in a l ≡ true
    by_first rest (inl e) =
        let same : negated k ≡ l = eqb-true (negated k) l e in
        rw (← same) (negated-value a k ∙ not_from_false (is_true_in a k) (or_parts (is_true_in a k) (list_any (is_true_in a) ks) f).0)
    by_first rest (inr e) = rest e

-- a literal that is true under the assignment is not false
not-false_from_true : (a : List Bool) (trues : List ℕ) (l : ℕ) → AreTrue a trues → is_true_in a l ≡ true → not (is_false trues l) ≡ true
not-false_from_true a trues l h t = not_from_false (is_false trues l) (false_from_ne_true (is_false trues l) (λ e. both_ways (is_true_in a (negated l)) (negated-value a l ∙ not_from_true (is_true_in a l) t) (h (negated l) e)))

-- a clause that the assignment satisfies has a true literal among those left
pub left-true : (a : List Bool) (trues lits : List ℕ) → AreTrue a trues → list_any (is_true_in a) lits ≡ true → list_any (is_true_in a) (left_of trues lits) ≡ true
left-true a trues [] h t = t
left-true a trues (l ∷ ls) h t = by_first (λ k. left-true a trues ls h k) (or_cases (is_true_in a l) (list_any (is_true_in a) ls) t)
  where
    by_left : (b : Bool) → list_any (is_true_in a) (left_of trues ls) ≡ true → list_any (is_true_in a) (cond b (l ∷ left_of trues ls) (left_of trues ls)) ≡ true
    by_left true k = or_right (is_true_in a l) (list_any (is_true_in a) (left_of trues ls)) k
    by_left false k = k

    by_first : (list_any (is_true_in a) ls ≡ true → list_any (is_true_in a) (left_of trues ls) ≡ true) → (is_true_in a l ≡ true) ⊎ (list_any (is_true_in a) ls ≡ true) → list_any (is_true_in a) (left_of trues (l ∷ ls)) ≡ true
    by_first rest (inl k) = let open_here : not (is_false trues l) ≡ true = not-false_from_true a trues l h k in rw open_here (or_left (is_true_in a l) (list_any (is_true_in a) (left_of trues ls)) k)
    by_first rest (inr k) = by_left (not (is_false trues l)) (rest k)

-- what the effect of a hint says where the assignment satisfies its clause
abbrev pub IsRight : List Bool → Effect → Type 0
IsRight a Missing = Unit {0}
IsRight a Passes = Unit {0}
IsRight a (Makes l) = is_true_in a l ≡ true
IsRight a Conflicts = ⊥
IsRight a LeavesMore = Unit {0}

left-right : (a : List Bool) (ls : List ℕ) → list_any (is_true_in a) ls ≡ true → IsRight a (effect_of_left ls)
left-right a [] h = absurd (cc)
left-right a (l ∷ []) h = by_first (or_cases (is_true_in a l) false h)
  where
    by_first : (is_true_in a l ≡ true) ⊎ (false ≡ true) → is_true_in a l ≡ true
    by_first (inl k) = k
    by_first (inr k) = absurd (cc)
left-right a (l ∷ m ∷ ls) h = tt

pub effect-right : (a : List Bool) (trues : List ℕ) (o : Option (Option (List ℕ))) → AreTrue a trues → ((c : Option (List ℕ)) → o ≡ Some c → satisfies_clause a c ≡ true) → IsRight a (effect_of trues o)
effect-right a trues None h k = tt
effect-right a trues (Some None) h k = tt
effect-right a trues (Some (Some lits)) h k = by_true (list_any (is_true trues) lits)
  where
    by_true : (b : Bool) → IsRight a (cond b Passes (effect_of_left (left_of trues lits)))
    by_true true = tt
    by_true false = left-right a (left_of trues lits) (left-true a trues lits h (k (Some lits) refl))

more-true : (a : List Bool) (trues : List ℕ) (e : Effect) → AreTrue a trues → IsRight a e → AreTrue a (trues_after e trues)
more-true a trues Missing h r = h
more-true a trues Passes h r = h
more-true a trues (Makes m) h r = λ l k. by_first l (or_cases (m == l) (is_true trues l) k)
  where
    by_first : (l : ℕ) → ((m == l) ≡ true) ⊎ (is_true trues l ≡ true) → is_true_in a l ≡ true
    by_first l (inl e) = let same : m ≡ l = eqb-true m l e in rw (← same) r
    by_first l (inr e) = h l e
more-true a trues Conflicts h r = h
more-true a trues LeavesMore h r = h

-- where the assignment satisfies each clause held and makes the true literals true, no line is derived
none-derived : (a : List Bool) (held : Holding) → ((id : ℕ) (c : Option (List ℕ)) → held id ≡ Some c → satisfies_clause a c ≡ true) → (hints trues : List ℕ) → AreTrue a trues → propagation held trues hints ≡ Derived → ⊥
none-derived a held s [] trues h e = absurd (cc)
none-derived a held s (id ∷ hints) trues h e =
    let effect = effect_of trues (held id) in
    let right : IsRight a effect = effect-right a trues (held id) h (s id) in
    by_effect effect right (none-derived a held s hints (trues_after effect trues) (more-true a trues effect h right)) e
  where
    by_effect : (f : Effect) → IsRight a f → (propagation held (trues_after f trues) hints ≡ Derived → ⊥) → ends_or f id (propagation held (trues_after f trues) hints) ≡ Derived → ⊥
    by_effect Missing r k q = absurd (cc)
    by_effect Passes r k q = k q
    by_effect (Makes l) r k q = k q
    by_effect Conflicts r k q = r
    by_effect LeavesMore r k q = absurd (cc)

pub derived-satisfied : DerivedIsSatisfied
derived-satisfied a held None hints s e = refl
derived-satisfied a held (Some lits) hints s e = true_from_ne_false (list_any (is_true_in a) lits) (λ f. none-derived a held s hints (map negated lits) (negations-true a lits f) e)

pub derived-entailed : DerivedIsEntailed
derived-entailed clauses held clause hints k e = λ a s. derived-satisfied a held clause hints (λ id c q. k id c q a s) e
