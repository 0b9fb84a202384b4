-- Sorted candidates are those by activity.
use Rattle.std.proofs.Common.{◌≡◌, ℕ, suc, ◌+◌, ◌/◌, ◌<◌, ◌≤◌, Bool, true, false, cond, List, [], ◌∷◌, map, take, get_or, length, refl, sym, ap, ◌∙◌, subst, arith, Less, Equal, Greater}
use Rattle.std.specs.Prelude.{All, nat_lt, ◌==◌, ◌&&◌, ◌||◌}
use Rattle.std.specs.List.Sorted.{IsPermutation, IsSortedBy}
use Rattle.std.specs.Cmp.{IsStrictWeakOrder}
use Rattle.std.specs.Ordering.{nat_cmp, is_lt, ordering_then}
use Rattle.spec_learn.specs.Insertion.{put_by}
use Rattle.std.proofs.lemmas.List.Elements.{All-nil, All-cons, All-head, All-tail}
use Rattle.std.proofs.lemmas.List.Sorted.{sorted_far}
use Rattle.std.proofs.lemmas.Bool.{or_parts, and_parts, eqb-true, eq-eqb, ltb-true, ltb-false, le-ltb}
use Rattle.mal_marks.specs.declared.choice.Candidate.{Candidate}
use Rattle.mal_marks.specs.Choosing.{candidate_cmp, precedes, by_activity, less_active_half}
use Rattle.mal_learn.proofs.OrderedLemmas.{IsOrdered, times, times-cons, times-moved, ordered-same}

-- one does not go before another: it is no less active, and where they are alike its number is no greater
record Follows (a b : Candidate) : Type 0 where
  no_less : b.activity ≤ a.activity
  no_later : a.activity ≡ b.activity → a.id ≤ b.id

follows : (a b : Candidate) → precedes a b ≡ false → Follows a b
follows a b h =
    let parts = or_parts (nat_lt a.activity b.activity) ((a.activity == b.activity) && nat_lt b.id a.id) h in
    record { no_less = ltb-false a.activity b.activity parts.0; no_later = λ q. ltb-false b.id a.id (subst (λ (s : Bool). (s && nat_lt b.id a.id) ≡ false) (eq-eqb a.activity b.activity q) parts.1) }

from-follows : (a b : Candidate) → Follows a b → precedes a b ≡ false
from-follows a b f = by_same (a.activity == b.activity) refl
  where
    by_same : (s : Bool) → (a.activity == b.activity) ≡ s → (nat_lt a.activity b.activity || (s && nat_lt b.id a.id)) ≡ false
    by_same true q = rw (le-ltb a.activity b.activity f.no_less, le-ltb b.id a.id (f.no_later (eqb-true a.activity b.activity q))) refl
    by_same false q = rw (le-ltb a.activity b.activity f.no_less) refl

-- one that goes before another
record Leads (a b : Candidate) : Type 0 where
  no_more : a.activity ≤ b.activity
  later : a.activity ≡ b.activity → b.id < a.id

leads : (a b : Candidate) → precedes a b ≡ true → Leads a b
leads a b h = by_less (nat_lt a.activity b.activity) refl h
  where
    by_less : (s : Bool) → nat_lt a.activity b.activity ≡ s → (s || ((a.activity == b.activity) && nat_lt b.id a.id)) ≡ true → Leads a b
    by_less true q k = let l : a.activity < b.activity = ltb-true a.activity b.activity q in record { no_more = omega arith; later = λ e. absurd (omega arith) }
    by_less false q k =
        let parts = and_parts (a.activity == b.activity) (nat_lt b.id a.id) k in
        let e : a.activity ≡ b.activity = eqb-true a.activity b.activity parts.0 in
        let l : b.id < a.id = ltb-true b.id a.id parts.1 in
        record { no_more = omega arith; later = λ q. l }

itself : (a : Candidate) → precedes a a ≡ false
itself a = from-follows a a (record { no_less = omega arith; no_later = λ q. omega arith })

back : (a b : Candidate) → precedes a b ≡ true → precedes b a ≡ false
back a b h = let l = leads a b h in let no_more : a.activity ≤ b.activity = l.no_more in from-follows b a (record { no_less = no_more; no_later = λ q. let g : b.id < a.id = l.later (sym q) in omega arith })

chain : (a b c : Candidate) → precedes a b ≡ false → precedes b c ≡ false → precedes a c ≡ false
chain a b c h k =
    let f = follows a b h in
    let g = follows b c k in
    let first : b.activity ≤ a.activity = f.no_less in
    let second : c.activity ≤ b.activity = g.no_less in
    from-follows a c (record { no_less = omega arith; no_later = λ q. let s : a.id ≤ b.id = f.no_later (omega arith) in let t : b.id ≤ c.id = g.no_later (omega arith) in omega arith })

pub candidates-rank : IsStrictWeakOrder precedes
candidates-rank = record { one_way = back; chain = chain }

-- what follows one follows each that goes before it
behind : (a b c : Candidate) → precedes a b ≡ true → precedes c b ≡ false → precedes c a ≡ false
behind a b c h k = chain c b a k (back a b h)

equal : (l m i j : ℕ) → l ≡ m → i ≡ j → ◌≡◌ {A = Candidate} (record { activity = l; id = i }) (record { activity = m; id = j })
equal l m i j p q = rw (p, q) refl

-- two of which neither goes before the other are one
one : (a b : Candidate) → precedes a b ≡ false → precedes b a ≡ false → a ≡ b
one a b h k =
    let f = follows a b h in
    let g = follows b a k in
    let up : b.activity ≤ a.activity = f.no_less in
    let down : a.activity ≤ b.activity = g.no_less in
    let same : a.activity ≡ b.activity = omega arith in
    let left : a.id ≤ b.id = f.no_later same in
    let right : b.id ≤ a.id = g.no_later (sym same) in
    equal a.activity b.activity a.id b.id same (omega arith)

-- none goes before one that stands in front of it
abbrev IsGrowing : List Candidate → Type 0
IsGrowing xs = IsOrdered (λ x y. precedes y x ≡ false) xs

abbrev is_same : Candidate → Candidate → Bool
is_same a b = (a.activity == b.activity) && (a.id == b.id)

same-one : (a b : Candidate) → is_same a b ≡ true → a ≡ b
same-one a b h = let parts = and_parts (a.activity == b.activity) (a.id == b.id) h in equal a.activity b.activity a.id b.id (eqb-true a.activity b.activity parts.0) (eqb-true a.id b.id parts.1)

same-itself : (x : Candidate) → is_same x x ≡ true
same-itself x = let activity : (x.activity == x.activity) ≡ true = eq-eqb x.activity x.activity refl in let id : (x.id == x.id) ≡ true = eq-eqb x.id x.id refl in rw (activity, id) refl

growing-same : (xs ys : List Candidate) → IsGrowing xs → IsGrowing ys → ((x : Candidate) → times is_same x xs ≡ times is_same x ys) → xs ≡ ys
growing-same xs ys = ordered-same is_same same-itself same-one (λ x y. precedes y x ≡ false) itself (λ a b h k. one a b k h) xs ys

-- putting a candidate at its place keeps what holds of all, the order, and the candidates
put-all : (P : Candidate → Type 0) (c : Candidate) (ds : List Candidate) → P c → All P ds → All P (put_by precedes c ds)
put-all P c [] p h = All-cons P c [] p h
put-all P c (d ∷ ds) p h = by_order (put-all P c ds p (All-tail P d ds h)) (precedes c d)
  where
    by_order : All P (put_by precedes c ds) → (b : Bool) → All P (cond b (c ∷ (d ∷ ds)) (d ∷ put_by precedes c ds))
    by_order f true = All-cons P c (d ∷ ds) p h
    by_order f false = All-cons P d (put_by precedes c ds) (All-head P d ds h) f

all-behind : (a b : Candidate) (xs : List Candidate) → precedes a b ≡ true → All (λ y. precedes y b ≡ false) xs → All (λ y. precedes y a ≡ false) xs
all-behind a b [] q h = All-nil (λ y. precedes y a ≡ false)
all-behind a b (x ∷ xs) q h = All-cons (λ y. precedes y a ≡ false) x xs (behind a b x q (All-head (λ y. precedes y b ≡ false) x xs h)) (all-behind a b xs q (All-tail (λ y. precedes y b ≡ false) x xs h))

put-ordered : (c : Candidate) (ds : List Candidate) → IsGrowing ds → IsGrowing (put_by precedes c ds)
put-ordered c [] h = (All-nil (λ y. precedes y c ≡ false), tt)
put-ordered c (d ∷ ds) h = by_order (put-ordered c ds h.1) (precedes c d) refl
  where
    by_order : IsGrowing (put_by precedes c ds) → (b : Bool) → precedes c d ≡ b → IsGrowing (cond b (c ∷ (d ∷ ds)) (d ∷ put_by precedes c ds))
    by_order f true q = (All-cons (λ y. precedes y c ≡ false) d ds (back c d q) (all-behind c d ds q h.0), h)
    by_order f false q = (put-all (λ y. precedes y d ≡ false) c ds q h.0, f)

put-times : (x c : Candidate) (ds : List Candidate) → times is_same x (put_by precedes c ds) ≡ cond (is_same x c) 1 0 + times is_same x ds
put-times x c [] = times-cons is_same x c []
put-times x c (d ∷ ds) = by_order (put-times x c ds) (precedes c d)
  where
    by_order : times is_same x (put_by precedes c ds) ≡ cond (is_same x c) 1 0 + times is_same x ds → (b : Bool) → times is_same x (cond b (c ∷ (d ∷ ds)) (d ∷ put_by precedes c ds)) ≡ cond (is_same x c) 1 0 + times is_same x (d ∷ ds)
    by_order f true = times-cons is_same x c (d ∷ ds)
    by_order f false = let u = times-cons is_same x d (put_by precedes c ds) in let w = times-cons is_same x d ds in omega arith

activity-ordered : (cs : List Candidate) → IsGrowing (by_activity cs)
activity-ordered [] = tt
activity-ordered (c ∷ cs) = put-ordered c (by_activity cs) (activity-ordered cs)

activity-times : (x : Candidate) (cs : List Candidate) → times is_same x (by_activity cs) ≡ times is_same x cs
activity-times x [] = refl
activity-times x (c ∷ cs) = let p = put-times x c (by_activity cs) in let u = times-cons is_same x c cs in let ih = activity-times x cs in omega arith

grows-from : (xs : List Candidate) → ((i j : ℕ) (d : Candidate) → i ≤ j → j < length xs → precedes (get_or xs j d) (get_or xs i d) ≡ false) → IsGrowing xs
grows-from [] h = tt
grows-from (x ∷ xs) h = ((λ k d l. h 0 (suc k) d (omega arith) (omega arith)), grows-from xs (λ i j d a b. h (suc i) (suc j) d (omega arith) (omega arith)))

sorted-activity : (xs sorted : List Candidate) → IsPermutation xs sorted → IsSortedBy precedes sorted → sorted ≡ by_activity xs
sorted-activity xs sorted p up = growing-same sorted (by_activity xs) (grows-from sorted (sorted_far precedes candidates-rank sorted up)) (activity-ordered xs) (λ x. times-moved is_same x xs sorted p ∙ sym (activity-times x xs))

-- the first half of them is the less active half
pub half-numbers : (xs sorted : List Candidate) (count : ℕ) → IsPermutation xs sorted → IsSortedBy precedes sorted → count ≡ length xs / 2 → map (λ (c : Candidate). c.id) (take count sorted) ≡ map (λ (c : Candidate). c.id) (less_active_half xs)
half-numbers xs sorted count p up n = ap (λ (k : ℕ). map (λ (c : Candidate). c.id) (take k sorted)) n ∙ ap (λ (cs : List Candidate). map (λ (c : Candidate). c.id) (take (length xs / 2) cs)) (sorted-activity xs sorted p up)

-- the order of the code is that one
pub cmp-precedes : (a b : Candidate) → is_lt (candidate_cmp a b) ≡ precedes a b
cmp-precedes a b = by_less (nat_lt a.activity b.activity) refl
  where
    by_number : (s t : Bool) → is_lt (cond s Less (cond t Equal Greater)) ≡ s
    by_number true t = refl
    by_number false true = refl
    by_number false false = refl

    by_equal : (s : Bool) → is_lt (ordering_then (cond s Equal Greater) (nat_cmp b.id a.id)) ≡ (s && nat_lt b.id a.id)
    by_equal true = by_number (nat_lt b.id a.id) (b.id == a.id)
    by_equal false = refl

    by_less : (s : Bool) → nat_lt a.activity b.activity ≡ s → is_lt (ordering_then (cond s Less (cond (a.activity == b.activity) Equal Greater)) (nat_cmp b.id a.id)) ≡ (s || ((a.activity == b.activity) && nat_lt b.id a.id))
    by_less true q = refl
    by_less false q = by_equal (a.activity == b.activity)
