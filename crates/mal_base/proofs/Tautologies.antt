use Rattle.std.proofs.Common.{◌≡◌, ◌≢◌, ℕ, ◌/◌, true, List, [], ◌∷◌, Option, Some, None, Result, Ok, Err, IfOk, MatchOption, Contains, ◌⊎◌, inl, inr, ◌<◌, refl, sym, subst, arith}
use Rattle.mal_base.specs.Clauses.{rises, climbs, is_below, is_less, clash_after, clash, IsTautology, HaveSame, IsLeastOpposite}
use Rattle.mal_base.proofs.Sorting.{Contains-head, Contains-later, Contains-cases, rises-no_clash, clash-least, rises-apart, rises-tail, above-first, and-left, and-right, and-both}
use Rattle.std.proofs.lemmas.Bool.{ltb-true, lt-ltb}

-- literals that climb and do not rise have a variable with both signs
both-cases : (l : ℕ) (ls : List ℕ) (o : Option ℕ) → clash_after (l / 2) ls ≡ o → climbs (l ∷ ls) ≡ true → rises (l ∷ ls) ≢ true → IsTautology (l ∷ ls)
both-cases l ls None e up bad = absurd (bad (rises-no_clash l ls up e))
both-cases l ls (Some v) e up bad = let is : IsLeastOpposite (l ∷ ls) v = clash-least l ls v up e in (v, is.plus, is.minus)

pub both-from_climbs : (lits : List ℕ) → climbs lits ≡ true → rises lits ≢ true → IsTautology lits
both-from_climbs [] up bad = absurd (bad refl)
both-from_climbs (l ∷ ls) up bad = both-cases l ls (clash_after (l / 2) ls) refl up bad

pub tautology-from_sorted : (lits sorted : List ℕ) → HaveSame lits sorted → climbs sorted ≡ true → rises sorted ≢ true → IsTautology lits
tautology-from_sorted lits sorted same up bad =
    let both : IsTautology sorted = both-from_climbs sorted up bad in
    (both.0, same.back _ both.1, same.back _ both.2)

-- what a clause of the sorted literals is to the literals
pub lits-none : {E : Type 0} (r : Result (Option (List ℕ)) E) (lits sorted : List ℕ) → HaveSame lits sorted → climbs sorted ≡ true → IfOk r (λ o. MatchOption o (rises sorted ≢ true) (λ c. (c ≡ sorted) × (rises sorted ≡ true))) → IfOk r (λ o. MatchOption o (IsTautology lits) (λ c. IsTautology lits → ⊥))
lits-none (Err e) lits sorted same up is = tt
lits-none (Ok None) lits sorted same up is =
    let both : IsTautology sorted = both-from_climbs sorted up is in
    (both.0, same.back _ both.1, same.back _ both.2)
lits-none (Ok (Some c)) lits sorted same up is = λ both. rises-apart sorted both.0 is.1 (same.there _ both.1) (same.there _ both.2)

pub lits-rising : {E : Type 0} (r : Result (Option (List ℕ)) E) (lits sorted : List ℕ) → HaveSame lits sorted → climbs sorted ≡ true → IfOk r (λ o. MatchOption o (rises sorted ≢ true) (λ c. (c ≡ sorted) × (rises sorted ≡ true))) → IfOk r (λ o. MatchOption o (IsTautology lits) (λ c. rises c ≡ true))
lits-rising (Err e) lits sorted same up is = tt
lits-rising (Ok None) lits sorted same up is =
    let both : IsTautology sorted = both-from_climbs sorted up is in
    (both.0, same.back _ both.1, same.back _ both.2)
lits-rising (Ok (Some c)) lits sorted same up is = rw is.0 is.1

pub lits-same : {E : Type 0} (r : Result (Option (List ℕ)) E) (lits sorted : List ℕ) → HaveSame lits sorted → climbs sorted ≡ true → IfOk r (λ o. MatchOption o (rises sorted ≢ true) (λ c. (c ≡ sorted) × (rises sorted ≡ true))) → IfOk r (λ o. MatchOption o (IsTautology lits) (λ c. HaveSame lits c))
lits-same (Err e) lits sorted same up is = tt
lits-same (Ok None) lits sorted same up is =
    let both : IsTautology sorted = both-from_climbs sorted up is in
    (both.0, same.back _ both.1, same.back _ both.2)
lits-same (Ok (Some c)) lits sorted same up is = rw is.0 same

-- sorted literals without a clash rise by variable
pub rises-from_sorted : (sorted : List ℕ) → climbs sorted ≡ true → clash sorted ≡ None → rises sorted ≡ true
rises-from_sorted [] up none = refl
rises-from_sorted (l ∷ ls) up none = rises-no_clash l ls up none

-- the first clash of the sorted literals is the least variable with both signs
pub opposite-from_sorted : (lits sorted : List ℕ) (v : ℕ) → HaveSame lits sorted → climbs sorted ≡ true → clash sorted ≡ Some v → IsLeastOpposite lits v
opposite-from_sorted lits [] v same up found = absurd (cc)
opposite-from_sorted lits (l ∷ ls) v same up found =
    let is : IsLeastOpposite (l ∷ ls) v = clash-least l ls v up found in
    record {
      plus = same.back _ is.plus;
      minus = same.back _ is.minus;
      least = λ o p q. is.least o (same.there _ p) (same.there _ q);
    }

-- literals whose sorted form rises have no variable with both signs
pub consistent-from_sorted : (lits sorted : List ℕ) → HaveSame lits sorted → rises sorted ≡ true → IsTautology lits → ⊥
consistent-from_sorted lits sorted same up both = rises-apart sorted both.0 up (same.there _ both.1) (same.there _ both.2)

nothing : (x : ℕ) → Contains [] x → ⊥
nothing x (k, h, e) = omega arith

-- lists that climb are equal where they have the same members
first-same : (l m : ℕ) (ls ms : List ℕ) → climbs (l ∷ ls) ≡ true → climbs (m ∷ ms) ≡ true → (l ≡ m) ⊎ Contains ls m → (m ≡ l) ⊎ Contains ms l → l ≡ m
first-same l m ls ms p q (inl e) f = e
first-same l m ls ms p q (inr e) (inl f) = sym f
first-same l m ls ms p q (inr e) (inr f) =
    let one : l < m = above-first l ls m p e in
    let two : m < l = above-first m ms l q f in
    absurd (omega arith)

rest-case : (l : ℕ) (ls ms : List ℕ) (x : ℕ) → climbs (l ∷ ls) ≡ true → Contains ls x → (l ≡ x) ⊎ Contains ms x → Contains ms x
rest-case l ls ms x up has (inr there) = there
rest-case l ls ms x up has (inl e) = let more : l < x = above-first l ls x up has in absurd (omega arith)

rest-same : (l : ℕ) (ls ms : List ℕ) → climbs (l ∷ ls) ≡ true → climbs (l ∷ ms) ≡ true → HaveSame (l ∷ ls) (l ∷ ms) → HaveSame ls ms
rest-same l ls ms p q same = record {
  there = λ x h. rest-case l ls ms x p h (Contains-cases l ms x (same.there x (Contains-later l ls x h)));
  back = λ x h. rest-case l ms ls x q h (Contains-cases l ls x (same.back x (Contains-later l ms x h)));
}

pub climbing-unique : (ls ms : List ℕ) → climbs ls ≡ true → climbs ms ≡ true → HaveSame ls ms → ls ≡ ms
climbing-unique [] [] p q same = refl
climbing-unique [] (m ∷ ms) p q same = let none : Contains [] m = same.back m (Contains-head m ms) in absurd (nothing m none)
climbing-unique (l ∷ ls) [] p q same = let none : Contains [] l = same.there l (Contains-head l ls) in absurd (nothing l none)
climbing-unique (l ∷ ls) (m ∷ ms) p q same =
    let e : l ≡ m = first-same l m ls ms p q (Contains-cases l ls m (same.back m (Contains-head m ms))) (Contains-cases m ms l (same.there l (Contains-head l ls))) in
    let q' : climbs (l ∷ ms) ≡ true = rw e q in
    let same' : HaveSame (l ∷ ls) (l ∷ ms) = subst (λ (n : ℕ). HaveSame (l ∷ ls) (n ∷ ms)) (sym e) same in
    let rest : ls ≡ ms = climbing-unique ls ms (and-right _ _ p) (and-right _ _ q') (rest-same l ls ms p q' same') in
    rw (e, rest) refl

-- and so are lists that rise: they climb
less-from_below : (l : ℕ) (ls : List ℕ) → is_below l ls ≡ true → is_less l ls ≡ true
less-from_below l [] h = refl
less-from_below l (m ∷ ms) h = let low : l / 2 < m / 2 = ltb-true (l / 2) (m / 2) h in lt-ltb l m (omega arith)

climbs-from_rises : (ls : List ℕ) → rises ls ≡ true → climbs ls ≡ true
climbs-from_rises [] h = refl
climbs-from_rises (l ∷ ls) h = and-both _ _ (less-from_below l ls (and-left _ _ h)) (climbs-from_rises ls (rises-tail l ls h))

pub rising-unique : (ls ms : List ℕ) → rises ls ≡ true → rises ms ≡ true → HaveSame ls ms → ls ≡ ms
rising-unique ls ms p q same = climbing-unique ls ms (climbs-from_rises ls p) (climbs-from_rises ms q) same
