-- Marks by rising number.
use Rattle.std.proofs.Common.{◌≡◌, ◌≢◌, ℕ, zero, suc, ◌+◌, ◌-◌, ◌<◌, ◌≤◌, Bool, true, false, not, nat_lt, nat_eq, cond, List, [], ◌∷◌, length, map, set, get_or, Option, Some, None, Result, refl, sym, ◌∙◌, ap, arith}
use Rattle.std.specs.Prelude.{filter, find, ◌&&◌, ◌||◌}
use Rattle.std.specs.List.{insert, slice_get}
use Rattle.std.specs.List.Sorted.{IsPartitionedBy}
use Rattle.std.specs.Result.{IsOk, is_ok}
use Rattle.std.specs.Option.{option_map_or}
use Rattle.std.proofs.lemmas.Bool.Decides.{nat_tests}
use Rattle.spec_guided.specs.State as guided
use Rattle.mal_marks.specs.declared.mark.Mark.{Mark}
use Rattle.mal_marks.specs.Marked.{MarksRise, guide_mark, guide_marks, mark_under, with_mark, is_counted, counted_in, resolved, resolved_at}

at_least : (low : ℕ) (ms : List Mark) (k : ℕ) (d : Mark) → MarksRise low ms → k < length ms → low ≤ (get_or ms k d).id
at_least low [] k d h l = absurd (omega arith)
at_least low (m ∷ ms) zero d h l = h.0
at_least low (m ∷ ms) (suc k) d h l = omega (arith, h.0, at_least (m.id + 1) ms k d h.1 (omega arith))

-- of two marks the one in front has the smaller number
rising : (low : ℕ) (ms : List Mark) (i j : ℕ) (d : Mark) → MarksRise low ms → i < j → j < length ms → (get_or ms i d).id < (get_or ms j d).id
rising low [] i j d h a l = absurd (omega arith)
rising low (m ∷ ms) i zero d h a l = absurd (omega arith)
rising low (m ∷ ms) zero (suc j) d h a l = omega (arith, at_least (m.id + 1) ms j d h.1 (omega arith))
rising low (m ∷ ms) (suc i) (suc j) d h a l = rising (m.id + 1) ms i j d h.1 (omega arith) (omega arith)

-- what stands at a place does not depend on what would stand past the end
get_or-same : (ms : List Mark) (k : ℕ) (d f : Mark) → k < length ms → get_or ms k d ≡ get_or ms k f
get_or-same [] k d f l = absurd (omega arith)
get_or-same (m ∷ ms) zero d f l = refl
get_or-same (m ∷ ms) (suc k) d f l = get_or-same ms k d f (omega arith)

pub test_lt : (a b : ℕ) → nat_lt a b ≡ true → a < b
test_lt a b = grind (arith, nat_tests)

lt_test : (a b : ℕ) → a < b → nat_lt a b ≡ true
lt_test a b = grind (arith, nat_tests)

pub test_not : (a b : ℕ) → nat_lt a b ≡ false → b ≤ a
test_not a b = grind (arith, nat_tests)

not_test : (a b : ℕ) → b ≤ a → nat_lt a b ≡ false
not_test a b = grind (arith, nat_tests)

eq_not : (a b : ℕ) → a ≢ b → nat_eq a b ≡ false
eq_not a b = grind (arith, nat_tests)

eq_yes : (a b : ℕ) → a ≡ b → nat_eq a b ≡ true
eq_yes a b = grind (arith, nat_tests)

yes_eq : (a b : ℕ) → nat_eq a b ≡ true → a ≡ b
yes_eq a b = grind (arith, nat_tests)

-- marks of numbers below one stand in front of the others
pub marks-part : (id : ℕ) (ms : List Mark) → MarksRise 1 ms → IsPartitionedBy (λ (m : Mark). nat_lt m.id id) ms
marks-part id ms h zero zero d a l t = t
marks-part id ms h i j d a l t = by_order (nat_lt i j) refl
  where
    by_order : (b : Bool) → nat_lt i j ≡ b → nat_lt (get_or ms i d).id id ≡ true
    by_order true o = lt_test (get_or ms i d).id id (omega (arith, rising 1 ms i j d h (test_lt i j o) l, test_lt (get_or ms j d).id id t))
    by_order false o =
        let same : i ≡ j = omega (arith, test_not i j o) in
        rw same t

-- where all marks have numbers below one if the last has
pub all-below : (ms : List Mark) (number k : ℕ) (s d : Mark) → MarksRise 1 ms → k < length ms → s ≡ get_or ms (length ms - 1) s → s.id < number → (get_or ms k d).id < number
all-below ms number k s d r l e n = by_order (nat_lt k (length ms - 1)) refl
  where
    here : get_or ms (length ms - 1) d ≡ get_or ms (length ms - 1) s
    here = get_or-same ms (length ms - 1) d s (omega arith)

    last : (get_or ms (length ms - 1) d).id < number
    last = rw (here, ← e) n

    by_order : (b : Bool) → nat_lt k (length ms - 1) ≡ b → (get_or ms k d).id < number
    by_order true t = omega (arith, last, rising 1 ms k (length ms - 1) d r (test_lt k (length ms - 1) t) (omega arith))
    by_order false t =
        let same : k ≡ length ms - 1 = omega (arith, test_not k (length ms - 1) t) in
        rw same last

-- where a mark goes among others
pub with-at : (m : Mark) (ms : List Mark) (place : ℕ) → place ≤ length ms → ((k : ℕ) (d : Mark) → k < place → (get_or ms k d).id < m.id) → ((k : ℕ) (d : Mark) → place ≤ k → k < length ms → m.id < (get_or ms k d).id) → with_mark m ms ≡ insert ms place m
with-at m [] zero l b a = refl
with-at m [] (suc k) l b a = absurd (omega arith)
with-at m (x ∷ xs) zero l b a =
    let less : nat_lt m.id x.id ≡ true = lt_test m.id x.id (a 0 m (omega arith) (omega arith)) in
    rw less refl
with-at m (x ∷ xs) (suc k) l b a =
    let more : nat_lt m.id x.id ≡ false = not_test m.id x.id (omega (arith, b 0 m (omega arith))) in
    rw more (ap (λ (ms : List Mark). x ∷ ms) (with-at m xs k (omega arith) (λ i d h. b (suc i) d (omega arith)) (λ i d h n. a (suc i) d (omega arith) (omega arith))))

some_none : (m : Mark) → ◌≡◌ {A = Option Mark} (Some m) None → ⊥
some_none m q = cc

-- a number without a mark
under-none : (id : ℕ) (ms : List Mark) → ((k : ℕ) (d : Mark) → k < length ms → (get_or ms k d).id ≢ id) → mark_under id ms ≡ None
under-none id [] h = refl
under-none id (m ∷ ms) h =
    let other : nat_eq m.id id ≡ false = eq_not m.id id (h 0 m (omega arith)) in
    rw other (under-none id ms (λ k d l. h (suc k) d (omega arith)))

first-other : (id : ℕ) (m : Mark) (ms : List Mark) → mark_under id (m ∷ ms) ≡ None → (m.id ≢ id) × (mark_under id ms ≡ None)
first-other id m ms n = by_test (nat_eq m.id id) refl n
  where
    by_test : (b : Bool) → nat_eq m.id id ≡ b → cond b (Some m) (mark_under id ms) ≡ None → (m.id ≢ id) × (mark_under id ms ≡ None)
    by_test true t e = absurd (some_none m e)
    by_test false t e = (λ q. differ (eq_yes m.id id q) t, e)
      where
        differ : nat_eq m.id id ≡ true → nat_eq m.id id ≡ false → ⊥
        differ p q = cc

absent : (id : ℕ) (ms : List Mark) → mark_under id ms ≡ None → (k : ℕ) (d : Mark) → k < length ms → (get_or ms k d).id ≢ id
absent id [] n k d l = absurd (omega arith)
absent id (m ∷ ms) n zero d l = (first-other id m ms n).0
absent id (m ∷ ms) n (suc k) d l = absent id ms (first-other id m ms n).1 k d (omega arith)

-- the mark of a number is the one that has it
pub under-at : (low id : ℕ) (ms : List Mark) (k : ℕ) (r : Mark) → MarksRise low ms → k < length ms → r ≡ get_or ms k r → r.id ≡ id → mark_under id ms ≡ slice_get ms k
under-at low id [] k r h l e i = absurd (omega arith)
under-at low id (x ∷ xs) zero r h l e i =
    let same : nat_eq x.id id ≡ true = eq_yes x.id id (ap (λ (y : Mark). y.id) (sym e) ∙ i) in
    rw same refl
under-at low id (x ∷ xs) (suc k) r h l e i =
    let more : x.id + 1 ≤ r.id = rw e (at_least (x.id + 1) xs k r h.1 (omega arith)) in
    let other : nat_eq x.id id ≡ false = eq_not x.id id (λ q. omega (arith, more, i, q)) in
    rw other (under-at (x.id + 1) id xs k r h.1 (omega arith) e i)

some_one : (m n : Mark) → Some m ≡ Some n → m ≡ n
some_one m n q = cc

get-one : (ms : List Mark) (k : ℕ) (r : Mark) → k < length ms → r ≡ get_or ms k r → slice_get ms k ≡ Some r
get-one [] k r l e = absurd (omega arith)
get-one (x ∷ xs) zero r l e = ap (λ (y : Mark). Some y) (sym e)
get-one (x ∷ xs) (suc k) r l e = get-one xs k r (omega arith) e

has-under : (id : ℕ) (ms : List Mark) (m : Mark) → mark_under id ms ≡ Some m → m.id ≡ id
has-under id [] m s = absurd (some_none m (sym s))
has-under id (x ∷ xs) m s = by_test (nat_eq x.id id) refl (has-under id xs m) s
  where
    by_test : (b : Bool) → nat_eq x.id id ≡ b → (mark_under id xs ≡ Some m → m.id ≡ id) → cond b (Some x) (mark_under id xs) ≡ Some m → m.id ≡ id
    by_test true t f q = ap (λ (y : Mark). y.id) (sym (some_one x m q)) ∙ yes_eq x.id id t
    by_test false t f q = f q

pub under-id : (id : ℕ) (ms : List Mark) (k : ℕ) (r : Mark) → k < length ms → r ≡ get_or ms k r → mark_under id ms ≡ slice_get ms k → r.id ≡ id
under-id id ms k r l e q = has-under id ms r (q ∙ get-one ms k r l e)

-- where the first mark whose number is not below one has another, or there is none, that one has no mark
pub under-past : (id place : ℕ) (ms : List Mark) → MarksRise 1 ms → ((k : ℕ) (d : Mark) → k < place → (get_or ms k d).id < id) → ((k : ℕ) (d : Mark) → place ≤ k → k < length ms → id ≤ (get_or ms k d).id) → ((d : Mark) → place < length ms → (get_or ms place d).id ≢ id) → mark_under id ms ≡ None
under-past id place ms r b a o = under-none id ms (λ k d h e. by_order k d h e (nat_lt k place) refl (nat_lt place k) refl)
  where
    by_order : (k : ℕ) (d : Mark) → k < length ms → (get_or ms k d).id ≡ id → (x : Bool) → nat_lt k place ≡ x → (y : Bool) → nat_lt place k ≡ y → ⊥
    by_order k d h e true t y u = omega (arith, e, b k d (test_lt k place t))
    by_order k d h e false t true u = omega (arith, e, a place d (omega arith) (omega (arith, h, test_lt place k u)), rising 1 ms place k d r (test_lt place k u) h)
    by_order k d h e false t false u =
        let same : k ≡ place = omega (arith, test_not k place t, test_not place k u) in
        o d (rw same at h) (rw same at e)

-- another mark at a place
pub other-at : (id place : ℕ) (ms : List Mark) (s d : Mark) → place < length ms → s ≡ get_or ms place s → s.id ≢ id → (get_or ms place d).id ≢ id
other-at id place ms s d l e n q = n (ap (λ (x : Mark). x.id) (e ∙ get_or-same ms place s d l) ∙ q)

-- what was inserted with room stands there
pub insert_items : {A B : Type 0} (r : Result A B) (xs ys : List Mark) → IsOk r → cond (is_ok r) xs ys ≡ xs
insert_items {A} {B} r xs ys h = rw h refl

pub strictly : (id place : ℕ) (ms : List Mark) → mark_under id ms ≡ None → ((k : ℕ) (d : Mark) → place ≤ k → k < length ms → id ≤ (get_or ms k d).id) → (k : ℕ) (d : Mark) → place ≤ k → k < length ms → id < (get_or ms k d).id
strictly id place ms n a k d h m = strict id (get_or ms k d).id (a k d h m) (absent id ms n k d m)
  where
    strict : (x y : ℕ) → x ≤ y → y ≢ x → x < y
    strict x y h d = by_order (nat_lt x y) refl
      where
        by_order : (t : Bool) → nat_lt x y ≡ t → x < y
        by_order true t = test_lt x y t
        by_order false t = absurd (d (omega (arith, test_not x y t)))

-- numbers rise with one more mark, and with fewer
rise-lower : (low high : ℕ) (ms : List Mark) → low ≤ high → MarksRise high ms → MarksRise low ms
rise-lower low high [] l h = tt
rise-lower low high (m ∷ ms) l h = (omega (arith, h.0), h.1)

pub rise-with : (low : ℕ) (m : Mark) (ms : List Mark) → low ≤ m.id → mark_under m.id ms ≡ None → MarksRise low ms → MarksRise low (with_mark m ms)
rise-with low m [] b n h = (b, tt)
rise-with low m (x ∷ xs) b n h = by_order (nat_lt m.id x.id) refl (λ l. rise-with (x.id + 1) m xs l (first-other m.id x xs n).1 h.1)
  where
    by_order : (t : Bool) → nat_lt m.id x.id ≡ t → (x.id + 1 ≤ m.id → MarksRise (x.id + 1) (with_mark m xs)) → MarksRise low (cond t (m ∷ (x ∷ xs)) (x ∷ with_mark m xs))
    by_order true e rest = (b, (omega (arith, test_lt m.id x.id e), h.1))
    by_order false e rest =
        let other : x.id ≡ m.id → ⊥ = (first-other m.id x xs n).0 in
        let l : x.id ≤ m.id = test_not m.id x.id e in
        (h.0, rest (strict x.id m.id l (λ q. other (sym q))))
      where
        strict : (a b : ℕ) → a ≤ b → b ≢ a → a + 1 ≤ b
        strict a b h d = by_less (nat_lt a b) refl
          where
            by_less : (t : Bool) → nat_lt a b ≡ t → a + 1 ≤ b
            by_less true t = omega (arith, test_lt a b t)
            by_less false t = absurd (d (omega (arith, test_not a b t)))

pub rise-filter : (test : Mark → Bool) (low : ℕ) (ms : List Mark) → MarksRise low ms → MarksRise low (filter test ms)
rise-filter test low [] h = tt
rise-filter test low (m ∷ ms) h = by_test (rise-filter test (m.id + 1) ms h.1) (test m)
  where
    by_test : MarksRise (m.id + 1) (filter test ms) → (b : Bool) → MarksRise low (cond b (m ∷ filter test ms) (filter test ms))
    by_test k true = (h.0, k)
    by_test k false = rise-lower low (m.id + 1) (filter test ms) (omega (arith, h.0)) k

pub rise-set : (low : ℕ) (ms : List Mark) (k : ℕ) (r s : Mark) → MarksRise low ms → r ≡ get_or ms k r → s.id ≡ r.id → MarksRise low (set ms k s)
rise-set low [] k r s h e i = tt
rise-set low (x ∷ xs) zero r s h e i =
    let same : s.id ≡ x.id = i ∙ ap (λ (y : Mark). y.id) e in
    (omega (arith, h.0, same), rise-lower (s.id + 1) (x.id + 1) xs (omega (arith, same)) h.1)
rise-set low (x ∷ xs) (suc k) r s h e i = (h.0, rise-set (x.id + 1) xs k r s h.1 e i)

-- how many count
pub count-most : (ms : List Mark) → counted_in ms ≤ length ms
count-most [] = omega arith
count-most (m ∷ ms) = by_test (is_counted m) (count-most ms)
  where
    by_test : (b : Bool) → counted_in ms ≤ length ms → length (cond b (m ∷ filter is_counted ms) (filter is_counted ms)) ≤ length (m ∷ ms)
    by_test true h = omega (arith, h)
    by_test false h = omega (arith, h)

pub count-with : (m : Mark) (ms : List Mark) → counted_in (with_mark m ms) ≡ cond (is_counted m) (counted_in ms + 1) (counted_in ms)
count-with m [] = by_test (is_counted m)
  where
    by_test : (b : Bool) → length (cond b (m ∷ []) []) ≡ cond b 1 0
    by_test true = refl
    by_test false = refl
count-with m (x ∷ xs) = by_order (nat_lt m.id x.id) (count-with m xs)
  where
    in_front : (b : Bool) → length (cond b (m ∷ filter is_counted (x ∷ xs)) (filter is_counted (x ∷ xs))) ≡ cond b (counted_in (x ∷ xs) + 1) (counted_in (x ∷ xs))
    in_front true = omega arith
    in_front false = refl

    behind : (b t : Bool) → counted_in (with_mark m xs) ≡ cond b (counted_in xs + 1) (counted_in xs) → length (cond t (x ∷ filter is_counted (with_mark m xs)) (filter is_counted (with_mark m xs))) ≡ cond b (length (cond t (x ∷ filter is_counted xs) (filter is_counted xs)) + 1) (length (cond t (x ∷ filter is_counted xs) (filter is_counted xs)))
    behind true true h = omega (arith, h)
    behind true false h = h
    behind false true h = omega (arith, h)
    behind false false h = h

    by_order : (t : Bool) → counted_in (with_mark m xs) ≡ cond (is_counted m) (counted_in xs + 1) (counted_in xs) → counted_in (cond t (m ∷ (x ∷ xs)) (x ∷ with_mark m xs)) ≡ cond (is_counted m) (counted_in (x ∷ xs) + 1) (counted_in (x ∷ xs))
    by_order true h = in_front (is_counted m)
    by_order false h = behind (is_counted m) (is_counted x) h

abbrev share : Mark → ℕ
share m = cond (is_counted m) 1 0

count-cons : (m : Mark) (ms : List Mark) → counted_in (m ∷ ms) ≡ share m + counted_in ms
count-cons m ms = by_test (is_counted m)
  where
    by_test : (b : Bool) → length (cond b (m ∷ filter is_counted ms) (filter is_counted ms)) ≡ cond b 1 0 + counted_in ms
    by_test true = omega arith
    by_test false = omega arith

count-set : (ms : List Mark) (k : ℕ) (r s : Mark) → k < length ms → r ≡ get_or ms k r → counted_in (set ms k s) + share r ≡ counted_in ms + share s
count-set [] k r s l e = absurd (omega arith)
count-set (x ∷ xs) zero r s l e =
    let same : share r ≡ share x = ap share e in
    omega (arith, count-cons s xs, count-cons x xs, same)
count-set (x ∷ xs) (suc k) r s l e = omega (arith, count-cons x (set xs k s), count-cons x xs, count-set xs k r s (omega arith) e)

-- one that counted does so no longer where it is worth it
pub count-worth : (ms : List Mark) (k gain : ℕ) (is_worth : Bool) (r : Mark) → k < length ms → r ≡ get_or ms k r → is_counted r ≡ true → counted_in ms ≡ cond is_worth (counted_in (set ms k (resolved gain is_worth r)) + 1) (counted_in (set ms k (resolved gain is_worth r)))
count-worth ms k gain is_worth r l e t = by_worth is_worth (share (resolved gain is_worth r)) (shares r.is_long r.is_kept is_worth t) (count-set ms k r (resolved gain is_worth r) l e)
  where
    one : share r ≡ 1
    one = rw t refl

    shares : (long kept worth : Bool) → (long && not kept) ≡ true → cond {A = ℕ} (long && not (kept || worth)) 1 0 ≡ cond worth 0 1
    shares true true worth h = absurd (cc)
    shares true false true h = refl
    shares true false false h = refl
    shares false kept worth h = absurd (cc)

    by_worth : (b : Bool) (n : ℕ) → n ≡ cond b 0 1 → counted_in (set ms k (resolved gain is_worth r)) + share r ≡ counted_in ms + n → counted_in ms ≡ cond b (counted_in (set ms k (resolved gain is_worth r)) + 1) (counted_in (set ms k (resolved gain is_worth r)))
    by_worth true n q h = omega (arith, q, h, one)
    by_worth false n q h = omega (arith, q, h, one)

pub count-others : (ms : List Mark) (k gain : ℕ) (is_worth : Bool) (r : Mark) → k < length ms → r ≡ get_or ms k r → is_counted r ≡ false → counted_in ms ≡ counted_in (set ms k (resolved gain is_worth r))
count-others ms k gain is_worth r l e t = omega (arith, none, shares r.is_long r.is_kept is_worth t, count-set ms k r (resolved gain is_worth r) l e)
  where
    none : share r ≡ 0
    none = rw t refl

    shares : (long kept worth : Bool) → (long && not kept) ≡ false → cond {A = ℕ} (long && not (kept || worth)) 1 0 ≡ 0
    shares true true worth h = refl
    shares true false worth h = absurd (cc)
    shares false kept worth h = refl

-- a conflict that was resolved with the clause of a number
resolved-above : (low id gain : ℕ) (is_worth : Bool) (ms : List Mark) → MarksRise low ms → id < low → map (resolved_at id gain is_worth) ms ≡ ms
resolved-above low id gain is_worth [] h l = refl
resolved-above low id gain is_worth (m ∷ ms) h l =
    let other : nat_eq m.id id ≡ false = eq_not m.id id (λ q. omega (arith, h.0, l, q)) in
    let rest : map (resolved_at id gain is_worth) ms ≡ ms = resolved-above (m.id + 1) id gain is_worth ms h.1 (omega (arith, h.0, l)) in
    rw (other, rest) refl

pub resolved-none : (id gain : ℕ) (is_worth : Bool) (ms : List Mark) → mark_under id ms ≡ None → map (resolved_at id gain is_worth) ms ≡ ms
resolved-none id gain is_worth [] n = refl
resolved-none id gain is_worth (m ∷ ms) n =
    let other : nat_eq m.id id ≡ false = eq_not m.id id (first-other id m ms n).0 in
    let rest : map (resolved_at id gain is_worth) ms ≡ ms = resolved-none id gain is_worth ms (first-other id m ms n).1 in
    rw (other, rest) refl

pub resolved-place : (low id gain : ℕ) (is_worth : Bool) (ms : List Mark) (k : ℕ) (r : Mark) → MarksRise low ms → k < length ms → r ≡ get_or ms k r → r.id ≡ id → map (resolved_at id gain is_worth) ms ≡ set ms k (resolved gain is_worth r)
resolved-place low id gain is_worth [] k r h l e i = absurd (omega arith)
resolved-place low id gain is_worth (x ∷ xs) zero r h l e i =
    let here : x.id ≡ id = ap (λ (y : Mark). y.id) (sym e) ∙ i in
    let same : nat_eq x.id id ≡ true = eq_yes x.id id here in
    let rest : map (resolved_at id gain is_worth) xs ≡ xs = resolved-above (x.id + 1) id gain is_worth xs h.1 (omega (arith, here)) in
    rw (same, rest) (ap (λ (y : Mark). resolved gain is_worth y ∷ xs) (sym e))
resolved-place low id gain is_worth (x ∷ xs) (suc k) r h l e i =
    let more : x.id + 1 ≤ r.id = rw e (at_least (x.id + 1) xs k r h.1 (omega arith)) in
    let other : nat_eq x.id id ≡ false = eq_not x.id id (λ q. omega (arith, more, i, q)) in
    let rest : map (resolved_at id gain is_worth) xs ≡ set xs k (resolved gain is_worth r) = resolved-place (x.id + 1) id gain is_worth xs k r h.1 (omega arith) e i in
    rw (other, rest) refl

-- what a guide has of a number
pub find-guide : (id : ℕ) (ms : List Mark) (f : guided.Mark → ℕ) (r : Mark) → mark_under id ms ≡ Some r → option_map_or f (find (λ (m : guided.Mark). nat_eq m.id id) (guide_marks ms)) 0 ≡ f (guide_mark r)
find-guide id [] f r q = absurd (some_none r (sym q))
find-guide id (m ∷ ms) f r q = by_test (nat_eq m.id id) (find-guide id ms f r) q
  where
    by_test : (b : Bool) → (mark_under id ms ≡ Some r → option_map_or f (find (λ (n : guided.Mark). nat_eq n.id id) (guide_marks ms)) 0 ≡ f (guide_mark r)) → cond b (Some m) (mark_under id ms) ≡ Some r → option_map_or f (cond b (Some (guide_mark m)) (find (λ (n : guided.Mark). nat_eq n.id id) (guide_marks ms))) 0 ≡ f (guide_mark r)
    by_test true g s = ap (λ (x : Mark). f (guide_mark x)) (some_one m r s)
    by_test false g s = g s

pub activity-at : (id : ℕ) (ms : List Mark) (k : ℕ) (r : Mark) → k < length ms → r ≡ get_or ms k r → mark_under id ms ≡ slice_get ms k → guided.activity_under (guide_marks ms) id ≡ r.activity
activity-at id ms k r l e q = find-guide id ms (λ (m : guided.Mark). m.activity) r (q ∙ get-one ms k r l e)

pub activity-under : (id : ℕ) (ms : List Mark) (r : Mark) → mark_under id ms ≡ Some r → guided.activity_under (guide_marks ms) id ≡ r.activity
activity-under id ms r q = find-guide id ms (λ (m : guided.Mark). m.activity) r q

pub activity-none : (id : ℕ) (ms : List Mark) → mark_under id ms ≡ None → guided.activity_under (guide_marks ms) id ≡ 0
activity-none id [] n = refl
activity-none id (m ∷ ms) n =
    let other : nat_eq m.id id ≡ false = eq_not m.id id (first-other id m ms n).0 in
    rw other (activity-none id ms (first-other id m ms n).1)
