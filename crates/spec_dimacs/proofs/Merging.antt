-- The clause of a list of literals is the one clause that they make.
use Rattle.std.proofs.Common.{◌≡◌, ℕ, ◌*◌, ◌/◌, ◌<◌, ◌≤◌, Bool, true, false, cond, ◌&&◌, ◌==◌, nat_lt, nat_le, List, [], ◌∷◌, Option, Some, None, Contains, ◌⊎◌, inl, inr, refl, sym, ◌∙◌, ap, arith, eqb-true}
use Rattle.std.specs.List.{list_all}
use Rattle.std.proofs.lemmas.Bool.{lt-ltb, leb-true, le-leb}
use Rattle.std.proofs.lemmas.Bool.Decides.{nat_tests}
use Rattle.mal_base.specs.Clauses.{rises, climbs, is_less, IsTautology, HaveSame}
use Rattle.mal_base.specs.Formulas.{is_within, is_clause_of}
use Rattle.mal_base.proofs.Sorting.{Contains-head, Contains-later, Contains-cases, and-left, and-right, and-both, rises-apart}
use Rattle.mal_base.proofs.Tautologies.{both-from_climbs, rising-unique}
use Rattle.spec_dimacs.specs.Merged.{with_literal, sorted, clause_of, IsClauseOf}

-- a literal put among others is there, and so are they, and nothing else
with_there : (x : ℕ) (ls : List ℕ) (y : ℕ) → (x ≡ y) ⊎ Contains ls y → Contains (with_literal x ls) y
with_there x [] y (inl e) = (0, omega arith, e)
with_there x [] y (inr (k, h, e)) = absurd (omega arith)
with_there x (m ∷ ms) y h = by_tests (λ k. with_there x ms y k) (x == m) refl (nat_lt x m) h
  where
    rest : ((x ≡ y) ⊎ Contains ms y → Contains (with_literal x ms) y) → (x ≡ y) ⊎ ((m ≡ y) ⊎ Contains ms y) → (m ≡ y) ⊎ Contains (with_literal x ms) y
    rest ih (inl e) = inr (ih (inl e))
    rest ih (inr (inl e)) = inl e
    rest ih (inr (inr later)) = inr (ih (inr later))

    split : (x ≡ y) ⊎ Contains (m ∷ ms) y → (x ≡ y) ⊎ ((m ≡ y) ⊎ Contains ms y)
    split (inl e) = inl e
    split (inr has) = inr (Contains-cases m ms y has)

    put : (m ≡ y) ⊎ Contains (with_literal x ms) y → Contains (m ∷ with_literal x ms) y
    put (inl e) = (0, omega arith, e)
    put (inr later) = Contains-later m (with_literal x ms) y later

    first : (x ≡ y) ⊎ Contains (m ∷ ms) y → Contains (x ∷ m ∷ ms) y
    first (inl e) = (0, omega arith, e)
    first (inr later) = Contains-later x (m ∷ ms) y later

    same : (x == m) ≡ true → (x ≡ y) ⊎ Contains (m ∷ ms) y → Contains (m ∷ ms) y
    same t (inl e) = let p : x ≡ m = eqb-true x m t in (0, omega arith, sym p ∙ e)
    same t (inr has) = has

    by_tests : ((x ≡ y) ⊎ Contains ms y → Contains (with_literal x ms) y) → (a : Bool) → (x == m) ≡ a → (b : Bool) → (x ≡ y) ⊎ Contains (m ∷ ms) y → Contains (cond a (m ∷ ms) (cond b (x ∷ m ∷ ms) (m ∷ with_literal x ms))) y
    by_tests ih true t b has = same t has
    by_tests ih false t true has = first has
    by_tests ih false t false has = put (rest ih (split has))

with_back : (x : ℕ) (ls : List ℕ) (y : ℕ) → Contains (with_literal x ls) y → (x ≡ y) ⊎ Contains ls y
with_back x [] y has = Contains-cases x [] y has
with_back x (m ∷ ms) y has = by_tests (λ k. with_back x ms y k) (x == m) (nat_lt x m) has
  where
    rest : (x ≡ y) ⊎ Contains ms y → (x ≡ y) ⊎ Contains (m ∷ ms) y
    rest (inl e) = inl e
    rest (inr later) = inr (Contains-later m ms y later)

    among : (Contains (with_literal x ms) y → (x ≡ y) ⊎ Contains ms y) → (m ≡ y) ⊎ Contains (with_literal x ms) y → (x ≡ y) ⊎ Contains (m ∷ ms) y
    among ih (inl e) = inr (0, omega arith, e)
    among ih (inr later) = rest (ih later)

    by_tests : (Contains (with_literal x ms) y → (x ≡ y) ⊎ Contains ms y) → (a b : Bool) → Contains (cond a (m ∷ ms) (cond b (x ∷ m ∷ ms) (m ∷ with_literal x ms))) y → (x ≡ y) ⊎ Contains (m ∷ ms) y
    by_tests ih true b h = inr h
    by_tests ih false true h = Contains-cases x (m ∷ ms) y h
    by_tests ih false false h = among ih (Contains-cases m (with_literal x ms) y h)

-- what is below the first of some literals, and below one more, is below the first of all of them
less-with : (l x : ℕ) (ms : List ℕ) → is_less l ms ≡ true → l < x → is_less l (with_literal x ms) ≡ true
less-with l x [] h low = lt-ltb l x low
less-with l x (m ∷ ms) h low = by_tests (x == m) (nat_lt x m)
  where
    by_tests : (a b : Bool) → is_less l (cond a (m ∷ ms) (cond b (x ∷ m ∷ ms) (m ∷ with_literal x ms))) ≡ true
    by_tests true b = h
    by_tests false true = lt-ltb l x low
    by_tests false false = h

climbs-with : (x : ℕ) (ls : List ℕ) → climbs ls ≡ true → climbs (with_literal x ls) ≡ true
climbs-with x [] up = refl
climbs-with x (m ∷ ms) up = by_tests (climbs-with x ms (and-right _ _ up)) (x == m) refl (nat_lt x m) refl
  where
    later : climbs (with_literal x ms) ≡ true → (x == m) ≡ false → nat_lt x m ≡ false → climbs (m ∷ with_literal x ms) ≡ true
    later ih s t =
        let low : m < x = grind (arith, nat_tests) in
        and-both _ _ (less-with m x ms (and-left _ _ up) low) ih

    by_tests : climbs (with_literal x ms) ≡ true → (a : Bool) → (x == m) ≡ a → (b : Bool) → nat_lt x m ≡ b → climbs (cond a (m ∷ ms) (cond b (x ∷ m ∷ ms) (m ∷ with_literal x ms))) ≡ true
    by_tests ih true s b t = up
    by_tests ih false s true t = and-both _ _ t up
    by_tests ih false s false t = later ih s t

pub sorted_climbs : (lits : List ℕ) → climbs (sorted lits) ≡ true
sorted_climbs [] = refl
sorted_climbs (l ∷ ls) = climbs-with l (sorted ls) (sorted_climbs ls)

sorted_there : (lits : List ℕ) (y : ℕ) → Contains lits y → Contains (sorted lits) y
sorted_there [] y has = has
sorted_there (l ∷ ls) y has = with_there l (sorted ls) y (rest (λ k. sorted_there ls y k) (Contains-cases l ls y has))
  where
    rest : (Contains ls y → Contains (sorted ls) y) → (l ≡ y) ⊎ Contains ls y → (l ≡ y) ⊎ Contains (sorted ls) y
    rest ih (inl e) = inl e
    rest ih (inr later) = inr (ih later)

sorted_back : (lits : List ℕ) (y : ℕ) → Contains (sorted lits) y → Contains lits y
sorted_back [] y has = has
sorted_back (l ∷ ls) y has = rest (λ k. sorted_back ls y k) (with_back l (sorted ls) y has)
  where
    rest : (Contains (sorted ls) y → Contains ls y) → (l ≡ y) ⊎ Contains (sorted ls) y → Contains (l ∷ ls) y
    rest ih (inl e) = (0, omega arith, e)
    rest ih (inr later) = Contains-later l ls y (ih later)

pub sorted_same : (lits : List ℕ) → HaveSame lits (sorted lits)
sorted_same lits = record { there = sorted_there lits; back = sorted_back lits }

-- the clause of some literals is what they make
pub clause_of-made : (lits : List ℕ) → IsClauseOf lits (clause_of lits)
clause_of-made lits = by_test (rises (sorted lits)) refl
  where
    by_test : (b : Bool) → rises (sorted lits) ≡ b → IsClauseOf lits (cond b (Some (sorted lits)) None)
    by_test true up = (up, sorted_same lits)
    by_test false up =
        let both : IsTautology (sorted lits) = both-from_climbs (sorted lits) (sorted_climbs lits) (λ e. absurd (cc)) in
        (both.0, sorted_back lits _ both.1, sorted_back lits _ both.2)

-- literals make one clause
pub clause_unique : (lits : List ℕ) (c d : Option (List ℕ)) → IsClauseOf lits c → IsClauseOf lits d → c ≡ d
clause_unique lits None None p q = refl
clause_unique lits None (Some d) p q = absurd (rises-apart d p.0 q.0 (q.1.there _ p.1) (q.1.there _ p.2))
clause_unique lits (Some c) None p q = absurd (rises-apart c q.0 p.0 (p.1.there _ q.1) (p.1.there _ q.2))
clause_unique lits (Some c) (Some d) p q =
    ap (λ (ls : List ℕ). Some ls) (rising-unique c d p.0 q.0 (record { there = λ x h. q.1.there x (p.1.back x h); back = λ x h. p.1.there x (q.1.back x h) }))

pub clause_of-unique : (lits : List ℕ) (c : Option (List ℕ)) → IsClauseOf lits c → c ≡ clause_of lits
clause_of-unique lits c is = clause_unique lits c (clause_of lits) is (clause_of-made lits)

-- what holds of each literal holds of each of the same literals
list_all-member : (p : ℕ → Bool) (lits : List ℕ) (x : ℕ) → list_all p lits ≡ true → Contains lits x → p x ≡ true
list_all-member p [] x h (k, low, e) = absurd (omega arith)
list_all-member p (l ∷ ls) x h has = by_place (λ later. list_all-member p ls x (and-right (p l) (list_all p ls) h) later) (Contains-cases l ls x has)
  where
    by_place : (Contains ls x → p x ≡ true) → (l ≡ x) ⊎ Contains ls x → p x ≡ true
    by_place ih (inl e) = ap p (sym e) ∙ and-left (p l) (list_all p ls) h
    by_place ih (inr later) = ih later

list_all-from_members : (p : ℕ → Bool) (lits : List ℕ) → ((x : ℕ) → Contains lits x → p x ≡ true) → list_all p lits ≡ true
list_all-from_members p [] all = refl
list_all-from_members p (l ∷ ls) all = and-both _ _ (all l (Contains-head l ls)) (list_all-from_members p ls (λ x h. all x (Contains-later l ls x h)))

pub within-same : (v : ℕ) (lits others : List ℕ) → HaveSame lits others → is_within v lits ≡ true → is_within v others ≡ true
within-same v lits others same h = list_all-from_members (λ l. nat_le 1 (l / 2) && nat_le (l / 2) v) others (λ x has. list_all-member (λ l. nat_le 1 (l / 2) && nat_le (l / 2) v) lits x h (same.back x has))

-- literals of some variables make a clause of these variables
pub clause_within : (v : ℕ) (lits : List ℕ) (c : Option (List ℕ)) → is_within v lits ≡ true → IsClauseOf lits c → is_clause_of v c ≡ true
clause_within v lits None h both =
    let own : (nat_le 1 (2 * both.0 / 2) && nat_le (2 * both.0 / 2) v) ≡ true = list_all-member (λ l. nat_le 1 (l / 2) && nat_le (l / 2) v) lits (2 * both.0) h both.1 in
    let low : 1 ≤ 2 * both.0 / 2 = leb-true 1 (2 * both.0 / 2) (and-left _ _ own) in
    let high : 2 * both.0 / 2 ≤ v = leb-true (2 * both.0 / 2) v (and-right (nat_le 1 (2 * both.0 / 2)) _ own) in
    le-leb 1 v (omega arith)
clause_within v lits (Some c) h is = and-both _ _ is.0 (within-same v lits c is.1 h)
