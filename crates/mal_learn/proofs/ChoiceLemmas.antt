use Rattle.std.proofs.Common.{◌≡◌, ℕ, suc, ◌+◌, ◌/◌, ◌<◌, ◌≤◌, Bool, true, false, cond, List, [], ◌∷◌, ◌++◌, map, take, get_or, length, reverse, refl, sym, ap, ◌∙◌, subst, arith, Less, Equal, Greater}
use Rattle.std.specs.Prelude.{All, nat_lt, ◌==◌, ◌&&◌, ◌||◌}
use Rattle.std.specs.List.Sorted.{IsPermutation, IsSorted}
use Rattle.std.specs.Cmp.{IsTotalOrder}
use Rattle.std.specs.Ordering.{nat_cmp, is_lt, ordering_then}
use Rattle.std.proofs.lemmas.Cmp.{then_total, on_total, nat_cmp_total}
use Rattle.std.proofs.lemmas.List.{reverse-append, take-map, length-map}
use Rattle.std.proofs.lemmas.List.Elements.{All-nil, All-cons, All-head, All-tail, All-append}
use Rattle.std.proofs.lemmas.List.MinMax.{ranks_by}
use Rattle.std.proofs.lemmas.List.Sorted.{IsPermutation-reverse, All-permutation, sorted_far}
use Rattle.std.proofs.lemmas.Bool.{or_parts, and_parts, eqb-true, eq-eqb, eqb-false, ltb-true, ltb-false, le-ltb}
use Rattle.mal_base.specs.NumberedClause.{NumberedClause}
use Rattle.spec_learn.specs.Dropping.{goes_before, put_by_length, by_length, longer_half}
use Rattle.mal_learn.specs.declared.dropping.Droppable.{Droppable}
use Rattle.mal_learn.specs.Choosing.{droppable_of, droppable_cmp, precedes}
use Rattle.mal_learn.proofs.OrderedLemmas.{IsOrdered, times, times-cons, times-moved, ordered-same}

-- one does not go before another: it is no longer, and of equal length its number is no greater
record Follows (a b : Droppable) : Type 0 where
  shorter : a.len ≤ b.len
  lesser : a.len ≡ b.len → a.id ≤ b.id

follows : (a b : Droppable) → precedes a b ≡ false → Follows a b
follows a b h =
    let parts = or_parts (nat_lt b.len a.len) ((a.len == b.len) && nat_lt b.id a.id) h in
    record { shorter = ltb-false b.len a.len parts.0; lesser = λ q. ltb-false b.id a.id (subst (λ (s : Bool). (s && nat_lt b.id a.id) ≡ false) (eq-eqb a.len b.len q) parts.1) }

from-follows : (a b : Droppable) → Follows a b → precedes a b ≡ false
from-follows a b f = by_same (a.len == b.len) refl
  where
    by_same : (s : Bool) → (a.len == b.len) ≡ s → (nat_lt b.len a.len || (s && nat_lt b.id a.id)) ≡ false
    by_same true q = rw (le-ltb b.len a.len f.shorter, le-ltb b.id a.id (f.lesser (eqb-true a.len b.len q))) refl
    by_same false q = rw (le-ltb b.len a.len f.shorter) refl

-- one that goes before another
record Leads (a b : Droppable) : Type 0 where
  longer : b.len ≤ a.len
  greater : a.len ≡ b.len → b.id < a.id

leads : (a b : Droppable) → precedes a b ≡ true → Leads a b
leads a b h = by_longer (nat_lt b.len a.len) refl h
  where
    by_longer : (s : Bool) → nat_lt b.len a.len ≡ s → (s || ((a.len == b.len) && nat_lt b.id a.id)) ≡ true → Leads a b
    by_longer true q k = let l : b.len < a.len = ltb-true b.len a.len q in record { longer = omega arith; greater = λ e. absurd (omega arith) }
    by_longer false q k =
        let parts = and_parts (a.len == b.len) (nat_lt b.id a.id) k in
        let e : a.len ≡ b.len = eqb-true a.len b.len parts.0 in
        let l : b.id < a.id = ltb-true b.id a.id parts.1 in
        record { longer = omega arith; greater = λ q. l }

itself : (a : Droppable) → precedes a a ≡ false
itself a = from-follows a a (record { shorter = omega arith; lesser = λ q. omega arith })

-- one that goes before another does not follow it, nor does what follows that one go before
back : (a b : Droppable) → precedes a b ≡ true → precedes b a ≡ false
back a b h = let l = leads a b h in let longer : b.len ≤ a.len = l.longer in from-follows b a (record { shorter = longer; lesser = λ q. let g : b.id < a.id = l.greater (sym q) in omega arith })

behind : (a b c : Droppable) → precedes a b ≡ true → precedes c b ≡ false → precedes c a ≡ false
behind a b c h k =
    let l = leads a b h in
    let f = follows c b k in
    let longer : b.len ≤ a.len = l.longer in
    let shorter : c.len ≤ b.len = f.shorter in
    from-follows c a (record { shorter = omega arith; lesser = λ q. let g : b.id < a.id = l.greater (omega arith) in let s : c.id ≤ b.id = f.lesser (omega arith) in omega arith })

abbrev made : ℕ → ℕ → Droppable
made l i = record { len = l; id = i }

equal : (l m i j : ℕ) → l ≡ m → i ≡ j → made l i ≡ made m j
equal l m i j p q = rw (p, q) refl

-- two of which neither goes before the other are one
one : (a b : Droppable) → precedes a b ≡ false → precedes b a ≡ false → a ≡ b
one a b h k =
    let f = follows a b h in
    let g = follows b a k in
    let no_longer : a.len ≤ b.len = f.shorter in
    let no_shorter : b.len ≤ a.len = g.shorter in
    let len : a.len ≡ b.len = omega arith in
    let no_greater : a.id ≤ b.id = f.lesser len in
    let no_lesser : b.id ≤ a.id = g.lesser (sym len) in
    equal a.len b.len a.id b.id len (omega arith)

-- none goes before one that stands in front of it
abbrev IsShrinking : List Droppable → Type 0
IsShrinking xs = IsOrdered (λ x y. precedes y x ≡ false) xs

abbrev is_same : Droppable → Droppable → Bool
is_same a b = (a.len == b.len) && (a.id == b.id)

same-one : (a b : Droppable) → is_same a b ≡ true → a ≡ b
same-one a b h = let parts = and_parts (a.len == b.len) (a.id == b.id) h in equal a.len b.len a.id b.id (eqb-true a.len b.len parts.0) (eqb-true a.id b.id parts.1)

same-itself : (x : Droppable) → is_same x x ≡ true
same-itself x = let len : (x.len == x.len) ≡ true = eq-eqb x.len x.len refl in let id : (x.id == x.id) ≡ true = eq-eqb x.id x.id refl in rw (len, id) refl

-- ordered lists of the same ones are equal
shrinking-same : (xs ys : List Droppable) → IsShrinking xs → IsShrinking ys → ((x : Droppable) → times is_same x xs ≡ times is_same x ys) → xs ≡ ys
shrinking-same xs ys = ordered-same is_same same-itself same-one (λ x y. precedes y x ≡ false) itself (λ a b h k. one a b k h) xs ys

-- putting a clause at its place keeps what holds of all, the order, and the clauses
put-all : (P : Droppable → Type 0) (c : NumberedClause) (ds : List NumberedClause) → P (droppable_of c) → All P (map droppable_of ds) → All P (map droppable_of (put_by_length c ds))
put-all P c [] p h = All-cons P (droppable_of c) [] p h
put-all P c (d ∷ ds) p h = by_order (put-all P c ds p (All-tail P (droppable_of d) (map droppable_of ds) h)) (goes_before c d)
  where
    by_order : All P (map droppable_of (put_by_length c ds)) → (b : Bool) → All P (map droppable_of (cond b (c ∷ (d ∷ ds)) (d ∷ put_by_length c ds)))
    by_order f true = All-cons P (droppable_of c) (map droppable_of (d ∷ ds)) p h
    by_order f false = All-cons P (droppable_of d) (map droppable_of (put_by_length c ds)) (All-head P (droppable_of d) (map droppable_of ds) h) f

all-behind : (a b : Droppable) (xs : List Droppable) → precedes a b ≡ true → All (λ y. precedes y b ≡ false) xs → All (λ y. precedes y a ≡ false) xs
all-behind a b [] q h = All-nil (λ y. precedes y a ≡ false)
all-behind a b (x ∷ xs) q h = All-cons (λ y. precedes y a ≡ false) x xs (behind a b x q (All-head (λ y. precedes y b ≡ false) x xs h)) (all-behind a b xs q (All-tail (λ y. precedes y b ≡ false) x xs h))

put-ordered : (c : NumberedClause) (ds : List NumberedClause) → IsShrinking (map droppable_of ds) → IsShrinking (map droppable_of (put_by_length c ds))
put-ordered c [] h = (All-nil (λ y. precedes y (droppable_of c) ≡ false), tt)
put-ordered c (d ∷ ds) h = by_order (put-ordered c ds h.1) (goes_before c d) refl
  where
    by_order : IsShrinking (map droppable_of (put_by_length c ds)) → (b : Bool) → goes_before c d ≡ b → IsShrinking (map droppable_of (cond b (c ∷ (d ∷ ds)) (d ∷ put_by_length c ds)))
    by_order f true q = (All-cons (λ y. precedes y (droppable_of c) ≡ false) (droppable_of d) (map droppable_of ds) (back (droppable_of c) (droppable_of d) q) (all-behind (droppable_of c) (droppable_of d) (map droppable_of ds) q h.0), h)
    by_order f false q = (put-all (λ y. precedes y (droppable_of d) ≡ false) c ds q h.0, f)

put-times : (x : Droppable) (c : NumberedClause) (ds : List NumberedClause) → times is_same x (map droppable_of (put_by_length c ds)) ≡ cond (is_same x (droppable_of c)) 1 0 + times is_same x (map droppable_of ds)
put-times x c [] = times-cons is_same x (droppable_of c) []
put-times x c (d ∷ ds) = by_order (put-times x c ds) (goes_before c d)
  where
    by_order : times is_same x (map droppable_of (put_by_length c ds)) ≡ cond (is_same x (droppable_of c)) 1 0 + times is_same x (map droppable_of ds) → (b : Bool) → times is_same x (map droppable_of (cond b (c ∷ (d ∷ ds)) (d ∷ put_by_length c ds))) ≡ cond (is_same x (droppable_of c)) 1 0 + times is_same x (map droppable_of (d ∷ ds))
    by_order f true = times-cons is_same x (droppable_of c) (map droppable_of (d ∷ ds))
    by_order f false = let u = times-cons is_same x (droppable_of d) (map droppable_of (put_by_length c ds)) in let w = times-cons is_same x (droppable_of d) (map droppable_of ds) in omega arith

length-ordered : (cs : List NumberedClause) → IsShrinking (map droppable_of (by_length cs))
length-ordered [] = tt
length-ordered (c ∷ cs) = put-ordered c (by_length cs) (length-ordered cs)

length-times : (x : Droppable) (cs : List NumberedClause) → times is_same x (map droppable_of (by_length cs)) ≡ times is_same x (map droppable_of cs)
length-times x [] = refl
length-times x (c ∷ cs) = let p = put-times x c (by_length cs) in let u = times-cons is_same x (droppable_of c) (map droppable_of cs) in let ih = length-times x cs in omega arith

-- a sorted list read backwards is ordered
droppables-total : IsTotalOrder droppable_cmp
droppables-total = then_total (on_total (λ (c : Droppable). c.len) nat_cmp_total) (on_total (λ (c : Droppable). c.id) nat_cmp_total)

not-less : (a b : Droppable) → is_lt (droppable_cmp a b) ≡ false → precedes b a ≡ false
not-less a b h = from-follows b a (by_less (nat_lt a.len b.len) refl h)
  where
    by_number : a.len ≡ b.len → (s : Bool) → nat_lt a.id b.id ≡ s → is_lt (cond s Less (cond (a.id == b.id) Equal Greater)) ≡ false → Follows b a
    by_number e true q k = let bad : true ≡ false = k in absurd (cc)
    by_number e false q k = record { shorter = omega arith; lesser = λ p. ltb-false a.id b.id q }

    by_equal : b.len ≤ a.len → (s : Bool) → (a.len == b.len) ≡ s → is_lt (ordering_then (cond s Equal Greater) (nat_cmp a.id b.id)) ≡ false → Follows b a
    by_equal l true q k = by_number (eqb-true a.len b.len q) (nat_lt a.id b.id) refl k
    by_equal l false q k = let other = eqb-false a.len b.len q in record { shorter = l; lesser = λ p. absurd (other (sym p)) }

    by_less : (s : Bool) → nat_lt a.len b.len ≡ s → is_lt (ordering_then (cond s Less (cond (a.len == b.len) Equal Greater)) (nat_cmp a.id b.id)) ≡ false → Follows b a
    by_less true q k = let bad : true ≡ false = k in absurd (cc)
    by_less false q k = by_equal (ltb-false a.len b.len q) (a.len == b.len) refl k

-- each is no greater than those after it
abbrev Rises : List Droppable → Type 0
Rises [] = Unit {0}
Rises (x ∷ xs) = All (λ y. precedes x y ≡ false) xs × Rises xs

ordered-push : (xs : List Droppable) (y : Droppable) → All (λ x. precedes y x ≡ false) xs → IsShrinking xs → IsShrinking (xs ++ y ∷ [])
ordered-push [] y h k = (All-nil (λ x. precedes x y ≡ false), tt)
ordered-push (x ∷ xs) y h k = (
  All-append (λ z. precedes z x ≡ false) xs (y ∷ []) k.0 (All-cons (λ z. precedes z x ≡ false) y [] (All-head (λ z. precedes y z ≡ false) x xs h) (All-nil (λ z. precedes z x ≡ false))),
  ordered-push xs y (All-tail (λ z. precedes y z ≡ false) x xs h) k.1,
)

ordered-reverse : (xs : List Droppable) → Rises xs → IsShrinking (reverse xs)
ordered-reverse [] h = tt
ordered-reverse (x ∷ xs) h = subst IsShrinking (sym (reverse-append (x ∷ []) xs)) (ordered-push (reverse xs) x (All-permutation (λ y. precedes x y ≡ false) xs (reverse xs) (IsPermutation-reverse xs) h.0) (ordered-reverse xs h.1))

rises-from : (xs : List Droppable) → ((i j : ℕ) (d : Droppable) → i ≤ j → j < length xs → precedes (get_or xs i d) (get_or xs j d) ≡ false) → Rises xs
rises-from [] h = tt
rises-from (x ∷ xs) h = ((λ k d l. h 0 (suc k) d (omega arith) (omega arith)), rises-from xs (λ i j d a b. h (suc i) (suc j) d (omega arith) (omega arith)))

sorted-back : (xs : List Droppable) → IsSorted droppable_cmp xs → IsShrinking (reverse xs)
sorted-back xs up = ordered-reverse xs (rises-from xs (λ i j d a b. not-less (get_or xs j d) (get_or xs i d) (sorted_far (λ x y. is_lt (droppable_cmp x y)) (ranks_by droppables-total (λ (c : Droppable). c)) xs up i j d a b)))

-- sorted ones read backwards are the clauses by length
pub sorted-clauses : (cs : List NumberedClause) (xs sorted : List Droppable) → xs ≡ map droppable_of cs → IsPermutation xs sorted → IsSorted droppable_cmp sorted → reverse sorted ≡ map droppable_of (by_length cs)
sorted-clauses cs xs sorted q p up = shrinking-same (reverse sorted) (map droppable_of (by_length cs)) (sorted-back sorted up) (length-ordered cs) (λ x.
    let turned : times is_same x (reverse sorted) ≡ times is_same x sorted = times-moved is_same x sorted (reverse sorted) (IsPermutation-reverse sorted) in
    let moved : times is_same x sorted ≡ times is_same x xs = times-moved is_same x xs sorted p in
    turned ∙ (moved ∙ (ap (times is_same x) q ∙ sym (length-times x cs))))

map-numbers : (cs : List NumberedClause) → map (λ (c : Droppable). c.id) (map droppable_of cs) ≡ map (λ (c : NumberedClause). c.id) cs
map-numbers [] = refl
map-numbers (c ∷ cs) = ap (λ (is : List ℕ). c.id ∷ is) (map-numbers cs)

-- the first half of them has the numbers of the longer half
pub half-numbers : (cs : List NumberedClause) (xs sorted : List Droppable) (count : ℕ) → xs ≡ map droppable_of cs → IsPermutation xs sorted → IsSorted droppable_cmp sorted → count ≡ length xs / 2 → map (λ (c : Droppable). c.id) (take count (reverse sorted)) ≡ map (λ (c : NumberedClause). c.id) (longer_half cs)
half-numbers cs xs sorted count q p up n =
    let half : count ≡ length cs / 2 = n ∙ ap (λ (k : ℕ). k / 2) (ap length q ∙ length-map cs droppable_of) in
    ap (λ (k : ℕ). map (λ (c : Droppable). c.id) (take k (reverse sorted))) half ∙ (ap (λ (ds : List Droppable). map (λ (c : Droppable). c.id) (take (length cs / 2) ds)) (sorted-clauses cs xs sorted q p up) ∙ (ap (map (λ (c : Droppable). c.id)) (take-map droppable_of (length cs / 2) (by_length cs)) ∙ map-numbers (take (length cs / 2) (by_length cs))))
