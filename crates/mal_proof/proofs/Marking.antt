-- Places of numbers that rise, and marks of them.
use Rattle.std.proofs.Common.{◌≡◌, ◌≢◌, ℕ, zero, suc, ◌+◌, ◌<◌, ◌≤◌, Bool, true, false, ◌||◌, List, [], ◌∷◌, ◌++◌, ◌==◌, Contains, length, take, get_or, set, map, slice_index, refl, sym, ◌∙◌, subst, ap, inl, inr, ◌⊎◌, arith}
use Rattle.std.specs.Prelude.{MatchOption, MatchResult, Result, Ok, Err}
use Rattle.std.specs.List.{list_any}
use Rattle.std.specs.List.Sorted.{IsStrictlyIncreasing, IsBinarySearchResult}
use Rattle.std.specs.Ordering.{nat_cmp}
use Rattle.std.specs.Result.{result_ok}
use Rattle.std.proofs.Math.Bool.{or-false, or_assoc}
use Rattle.std.proofs.lemmas.Bool.{ne_eqb, eq-eqb, or_right, cases_lt}
use Rattle.std.proofs.lemmas.List.{take_more}
use Rattle.std.proofs.lemmas.List.Elements.{All-from_get_or, All-contains, Contains-get_or}
use Rattle.std.proofs.lemmas.List.Sorted.{searched}
use Rattle.std.proofs.lemmas.Map.Keys.{sorted_from_strictly_increasing, non_decreasing_from_sorted}
use Rattle.mal_base.specs.Clauses.{climbs, is_less}
use Rattle.mal_base.proofs.Sorting.{Contains-head, Contains-later, above-first, climbs-from_increasing, and-right}
use Rattle.spec_proof.specs.Trimmed.{new_id}
use Rattle.mal_proof.specs.Marks.{AreMarks, IsMissing}

-- what a binary search finds
search-missing : (ids : List ℕ) (id i : ℕ) → ((k : ℕ) → k < i → get_or ids k 0 < id) → ((k : ℕ) → i ≤ k → k < length ids → id < get_or ids k 0) → IsMissing ids id
search-missing ids id i below above has = All-contains (λ y. y ≢ id) ids id (All-from_get_or (λ y. y ≢ id) ids 0 (λ k h. other k h (cases_lt k i))) has refl
  where
    other : (k : ℕ) → k < length ids → (k < i) ⊎ (i ≤ k) → get_or ids k 0 ≢ id
    other k h (inl l) e = let low : get_or ids k 0 < id = below k l in omega arith
    other k h (inr g) e = let high : id < get_or ids k 0 = above k g h in omega arith

pub place-found : (ids : List ℕ) (id : ℕ) (r : Result ℕ ℕ) → IsStrictlyIncreasing ids → IsBinarySearchResult (λ y. nat_cmp y id) ids r
    → MatchOption (result_ok r) (IsMissing ids id) (λ place. (place < length ids) × (slice_index ids place ≡ id))
place-found ids id r up is = by_result r (searched ids id r is (λ i j h k. non_decreasing_from_sorted ids (sorted_from_strictly_increasing ids up) i j 0 h k))
  where
    by_result : (r : Result ℕ ℕ) → MatchResult r (λ i. (i < length ids) × (get_or ids i 0 ≡ id)) (λ i. (i ≤ length ids) × ((k : ℕ) → k < i → get_or ids k 0 < id) × ((k : ℕ) → i ≤ k → k < length ids → id < get_or ids k 0))
        → MatchOption (result_ok r) (IsMissing ids id) (λ place. (place < length ids) × (slice_index ids place ≡ id))
    by_result (Ok i) h = (h.0, h.1)
    by_result (Err i) h = search-missing ids id i h.1 h.2

-- tests that agree
pub map-agree : (f g : ℕ → Bool) (ids : List ℕ) → ((i : ℕ) → f i ≡ g i) → map f ids ≡ map g ids
map-agree f g [] h = refl
map-agree f g (i ∷ ids) h = let here : f i ≡ g i = h i in let rest : map f ids ≡ map g ids = map-agree f g ids h in rw (here, rest) refl

-- a number that is not there is not marked
pub missing-marked : (test : ℕ → Bool) (ids : List ℕ) (id : ℕ) → IsMissing ids id → map test ids ≡ map (λ i. test i || (id == i)) ids
missing-marked test [] id none = refl
missing-marked test (x ∷ xs) id none =
    let other : (id == x) ≡ false = ne_eqb id x (λ e. none (subst (λ (n : ℕ). Contains (x ∷ xs) n) (sym e) (Contains-head x xs))) in
    let rest : map test xs ≡ map (λ i. test i || (id == i)) xs = missing-marked test xs id (λ h. none (Contains-later x xs id h)) in
    let here : test x ≡ (test x || (id == x)) = sym (ap (λ (b : Bool). test x || b) other ∙ or-false (test x)) in
    ap (λ (b : Bool). b ∷ map test xs) here ∙ ap (λ (bs : List Bool). (test x || (id == x)) ∷ bs) rest

climbs-tail : (x : ℕ) (xs : List ℕ) → climbs (x ∷ xs) ≡ true → climbs xs ≡ true
climbs-tail x xs up = and-right (is_less x xs) (climbs xs) up

-- the first of numbers that rise is none of the others
first-missing : (x : ℕ) (xs : List ℕ) → climbs (x ∷ xs) ≡ true → IsMissing xs x
first-missing x xs up has = let over : x < x = above-first x xs x up has in omega arith

pub there-marked : (test : ℕ → Bool) (ids : List ℕ) (place id : ℕ) → climbs ids ≡ true → place < length ids → get_or ids place 0 ≡ id → set (map test ids) place true ≡ map (λ i. test i || (id == i)) ids
there-marked test [] place id up low is = absurd (omega arith)
there-marked test (x ∷ xs) zero id up low is =
    let here : (test x || (id == x)) ≡ true = or_right (test x) (id == x) (eq-eqb id x (sym is)) in
    let rest : map test xs ≡ map (λ i. test i || (id == i)) xs = missing-marked test xs id (subst (λ (n : ℕ). IsMissing xs n) is (first-missing x xs up)) in
    ap (λ (bs : List Bool). true ∷ bs) rest ∙ ap (λ (b : Bool). b ∷ map (λ i. test i || (id == i)) xs) (sym here)
there-marked test (x ∷ xs) (suc k) id up low is =
    let has : Contains xs id = subst (λ (n : ℕ). Contains xs n) is (Contains-get_or xs k 0 (omega arith)) in
    let over : x < id = above-first x xs id up has in
    let other : (id == x) ≡ false = ne_eqb id x (λ e. omega arith) in
    let here : test x ≡ (test x || (id == x)) = sym (ap (λ (b : Bool). test x || b) other ∙ or-false (test x)) in
    let rest : set (map test xs) k true ≡ map (λ i. test i || (id == i)) xs = there-marked test xs k id (climbs-tail x xs up) (omega arith) is in
    ap (λ (b : Bool). b ∷ set (map test xs) k true) here ∙ ap (λ (bs : List Bool). (test x || (id == x)) ∷ bs) rest

pub mark-there : (test : ℕ → Bool) (ids : List ℕ) (marks : List Bool) (place id : ℕ) → IsStrictlyIncreasing ids → place < length ids → get_or ids place 0 ≡ id → AreMarks test ids marks → AreMarks (λ i. test i || (id == i)) ids (set marks place true)
mark-there test ids marks place id up low is e = ap (λ (ms : List Bool). set ms place true) e ∙ there-marked test ids place id (climbs-from_increasing ids up) low is

-- marks of no numbers, and of one more
pub marks-none : (test : ℕ → Bool) (ids : List ℕ) (marks : List Bool) → AreMarks test ids marks → AreMarks (λ i. test i || false) ids marks
marks-none test ids marks e = e ∙ map-agree test (λ i. test i || false) ids (λ i. sym (or-false (test i)))

any-push : (p : ℕ → Bool) (xs : List ℕ) (x : ℕ) → list_any p (xs ++ x ∷ []) ≡ (list_any p xs || p x)
any-push p [] x = or-false (p x)
any-push p (y ∷ ys) x = ap (λ (b : Bool). p y || b) (any-push p ys x) ∙ sym (or_assoc (p y) (list_any p ys) (p x))

pub marks-more : (test : ℕ → Bool) (ids more : List ℕ) (marks : List Bool) (k id : ℕ) → k < length more → id ≡ get_or more k id
    → AreMarks (λ i. (test i || list_any (λ h. h == i) (take k more)) || (id == i)) ids marks → AreMarks (λ i. test i || list_any (λ h. h == i) (take (k + 1) more)) ids marks
marks-more test ids more marks k id low is e =
    let longer : take (k + 1) more ≡ take k more ++ id ∷ [] = take_more more k id low ∙ ap (λ (n : ℕ). take k more ++ n ∷ []) (sym is) in
    rw longer (e ∙ map-agree (λ i. (test i || list_any (λ h. h == i) (take k more)) || (id == i)) (λ i. test i || list_any (λ h. h == i) (take k more ++ id ∷ [])) ids (λ i.
    or_assoc (test i) (list_any (λ h. h == i) (take k more)) (id == i) ∙ ap (λ (b : Bool). test i || b) (sym (any-push (λ h. h == i) (take k more) id))))

-- new numbers
pub new-missing : (m : ℕ) (ids : List ℕ) (id : ℕ) → IsMissing ids id → id ≡ new_id m ids id
new-missing m [] id none = refl
new-missing m (x ∷ xs) id none =
    let other : (x == id) ≡ false = ne_eqb x id (λ e. none (subst (λ (n : ℕ). Contains (x ∷ xs) n) e (Contains-head x xs))) in
    rw other (new-missing (m + 1) xs id (λ h. none (Contains-later x xs id h)))

new-there : (m : ℕ) (ids : List ℕ) (place id : ℕ) → climbs ids ≡ true → place < length ids → get_or ids place 0 ≡ id → m + place + 1 ≡ new_id m ids id
new-there m [] place id up low is = absurd (omega arith)
new-there m (x ∷ xs) zero id up low is = let here : (x == id) ≡ true = eq-eqb x id is in rw here (omega arith)
new-there m (x ∷ xs) (suc k) id up low is =
    let has : Contains xs id = subst (λ (n : ℕ). Contains xs n) is (Contains-get_or xs k 0 (omega arith)) in
    let over : x < id = above-first x xs id up has in
    let other : (x == id) ≡ false = ne_eqb x id (λ e. omega arith) in
    let rest : (m + 1) + k + 1 ≡ new_id (m + 1) xs id = new-there (m + 1) xs k id (climbs-tail x xs up) (omega arith) is in
    let next : m + suc k + 1 ≡ (m + 1) + k + 1 = omega arith in
    rw other (next ∙ rest)

pub new-found : (m : ℕ) (ids : List ℕ) (place id : ℕ) → IsStrictlyIncreasing ids → place < length ids → get_or ids place 0 ≡ id → m + place + 1 ≡ new_id m ids id
new-found m ids place id up low is = new-there m ids place id (climbs-from_increasing ids up) low is
