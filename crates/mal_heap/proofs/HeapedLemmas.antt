use Rattle.mal_base.specs.Limits.{greatest_variable}
use Rattle.std.proofs.Common.{◌≡◌, ◌≢◌, ℕ, ◌+◌, ◌-◌, ◌<◌, ◌≤◌, Bool, true, false, List, [], ◌∷◌, ◌++◌, length, length-append, get_or, set, nat_lt, ◌⊎◌, inl, inr, refl, sym, ap, ◌∙◌, arith}
use Rattle.std.proofs.lemmas.Bool.{cases_eq}
use Rattle.std.proofs.lemmas.Bool.Decides.{nat_tests}
use Rattle.std.proofs.lemmas.List.{get_or-set_same, get_or-set_other, length-set, ext_get_or, get_or_append_left}
use Rattle.spec_activity.specs.Rank.{precedes}
use Rattle.mal_heap.specs.Rows.{at, IsRow, IsSwap, inside}
use Rattle.mal_heap.specs.Heaps.{outranks, IsHeap, IsHeapUp}
use Rattle.mal_heap.specs.Heaped.{IsVariable, is_inside, IsFirst, IsEmpty, IsHeaped}
use Rattle.mal_heap.proofs.RowLemmas.{inside-read, length-inside, inside-more, inside-fewer, row-push}
use Rattle.mal_heap.proofs.HeapLemmas.{top-first, raise-is, raised-up, raised-outside, heap-grown}

lt-true : (a b : ℕ) → nat_lt a b ≡ true → a < b
lt-true a b = grind (arith, nat_tests)

lt-is : (a b : ℕ) → a < b → nat_lt a b ≡ true
lt-is a b = grind (arith, nat_tests)

lt-none : (a : ℕ) → nat_lt a 0 ≡ false
lt-none a = grind (arith, nat_tests)

-- numbers and their variables
ranked : (index : ℕ) (ks : List ℕ) (u w v x : ℕ) → v ≡ u + 1 → x ≡ w + 1 → outranks index ks u w ≡ true → precedes index ks v x ≡ true
ranked index ks u w v x p q h =
    let e : v - 1 ≡ u = omega arith in
    let f : x - 1 ≡ w = omega arith in
    rw (e, f, p, q) h

-- whether a variable is inside, by its place
pub inside-of : (index : ℕ) (ks xs ps : List ℕ) (count v : ℕ) → IsHeaped index ks xs ps count → IsVariable ks v → is_inside (inside count ps) v ≡ nat_lt (at ps (v - 1)) count
inside-of index ks xs ps count v h (some, most) = inside-read count ps (v - 1) (omega (arith, h.long))

pub first-is : (index : ℕ) (ks xs ps : List ℕ) (count : ℕ) → IsHeaped index ks xs ps count → 0 < count → IsFirst index ks (inside count ps) (at xs 0 + 1)
first-is index ks xs ps count h some =
    let low : 0 < length xs = omega (arith, h.within) in
    let below : at xs 0 < length ps = h.row.below 0 low in
    let here : at xs 0 + 1 - 1 ≡ at xs 0 = omega arith in
    let is : IsVariable ks (at xs 0 + 1) = (omega arith, omega (arith, h.long)) in
    record {
      variable = is;
      within = inside-of index ks xs ps count (at xs 0 + 1) h is ∙ (ap (λ (x : ℕ). nat_lt (at ps x) count) here ∙ (ap (λ (x : ℕ). nat_lt x count) (h.row.listed 0 low) ∙ lt-is 0 count some));
      first = before;
    }
  where
    before : (w : ℕ) → IsVariable ks w → is_inside (inside count ps) w ≡ true → w ≢ at xs 0 + 1 → precedes index ks (at xs 0 + 1) w ≡ true
    before w v t n =
        let place : at ps (w - 1) < count = lt-true (at ps (w - 1)) count (sym (inside-of index ks xs ps count w h v) ∙ t) in
        let low : w - 1 < length ps = omega (arith, h.long, v.0, v.1) in
        let item : at xs (at ps (w - 1)) ≡ w - 1 = h.row.placed (w - 1) low in
        let other : at xs (at ps (w - 1)) ≢ at xs 0 = λ e. n (omega (arith, e, item, v.0)) in
        ranked index ks (at xs 0) (at xs (at ps (w - 1))) (at xs 0 + 1) w refl (omega (arith, item, v.0)) (top-first index ks xs count (at ps (w - 1)) h.order place other)

pub none-is : (index : ℕ) (ks xs ps : List ℕ) (count : ℕ) → IsHeaped index ks xs ps count → count ≡ 0 → IsEmpty ks (inside count ps)
none-is index ks xs ps count h e v is = inside-of index ks xs ps count v h is ∙ (ap (nat_lt (at ps (v - 1))) e ∙ lt-none (at ps (v - 1)))

-- an element set to what it is
set-same : (bs : List Bool) (u : ℕ) (b : Bool) → u < length bs → get_or bs u false ≡ b → set bs u b ≡ bs
set-same bs u b l e =
    ext_get_or false (set bs u b) bs (length-set bs u b) (λ (k : ℕ) (low : k < length (set bs u b)). by_place k (cases_eq k u))
  where
    by_place : (k : ℕ) → (k ≡ u) ⊎ (k ≢ u) → get_or (set bs u b) k false ≡ get_or bs k false
    by_place k (inl q) = ap (λ (x : ℕ). get_or (set bs u b) x false) q ∙ (get_or-set_same bs u b false l ∙ (sym e ∙ ap (λ (x : ℕ). get_or bs x false) (sym q)))
    by_place k (inr n) = get_or-set_other bs u k b false n

-- a variable that is inside is put in
pub inserted-inside : (index : ℕ) (ks xs ps : List ℕ) (count v : ℕ) → IsHeaped index ks xs ps count → IsVariable ks v → at ps (v - 1) < count → inside count ps ≡ set (inside count ps) (v - 1) true
inserted-inside index ks xs ps count v h is l =
    let low : v - 1 < length ps = omega (arith, h.long, is.0, is.1) in
    sym (set-same (inside count ps) (v - 1) true (rw (length-inside count ps) low) (inside-read count ps (v - 1) low ∙ lt-is (at ps (v - 1)) count l))

-- one that is outside
pub inserted-more : (xs ys ps qs : List ℕ) (count place u : ℕ) → IsRow ys qs → count < length ys → IsSwap xs ys place count → at xs place ≡ u → inside count qs ≡ inside count ps → inside (count + 1) qs ≡ set (inside count ps) u true
inserted-more xs ys ps qs count place u r l s e q =
    let item : at ys count ≡ u = s.second ∙ e in
    inside-more ys qs count r l ∙ (ap (λ (x : ℕ). set (inside count qs) x true) item ∙ ap (λ (bs : List Bool). set bs u true) q)

-- the first one is taken out
pub taken-fewer : (xs ys ps qs : List ℕ) (last u : ℕ) → IsRow ys qs → last < length ys → IsSwap xs ys 0 last → at xs 0 ≡ u → inside (last + 1) qs ≡ inside (last + 1) ps → inside last qs ≡ set (inside (last + 1) ps) u false
taken-fewer xs ys ps qs last u r l s e q =
    let item : at ys last ≡ u = s.second ∙ e in
    inside-fewer ys qs last r l ∙ (ap (λ (x : ℕ). set (inside (last + 1) qs) x false) item ∙ ap (λ (bs : List Bool). set bs u false) q)

-- no other item is the one at its place
only-item : (xs ps : List ℕ) (u k : ℕ) → IsRow xs ps → k < length xs → k ≢ at ps u → at xs k ≢ u
only-item xs ps u k r l n e = n (sym (r.listed k l) ∙ ap (at ps) e)

pub raised-inside : (index : ℕ) (ks xs ps : List ℕ) (count u a : ℕ) → IsHeaped index ks xs ps count → u < length ks → at ks u ≤ a → IsHeapUp index (set ks u a) xs count (at ps u)
raised-inside index ks xs ps count u a h l m =
    raised-up index ks (set ks u a) xs count (at ps u) u (raise-is ks u a l m) (h.row.placed u (omega (arith, h.long))) (λ (k : ℕ) (low : k < count) (n : k ≢ at ps u). only-item xs ps u k h.row (omega (arith, h.within)) n) h.order

pub raised-away : (index : ℕ) (ks xs ps : List ℕ) (count u a : ℕ) → IsHeaped index ks xs ps count → u < length ks → at ks u ≤ a → count ≤ at ps u → IsHeap index (set ks u a) xs count
raised-away index ks xs ps count u a h l m away =
    raised-outside index ks (set ks u a) xs count u (raise-is ks u a l m) (λ (k : ℕ) (low : k < count). only-item xs ps u k h.row (omega (arith, h.within)) (λ e. omega arith)) h.order

-- a variable more, outside
pub pushed : (index : ℕ) (ks xs ps : List ℕ) (count n : ℕ) → IsHeaped index ks xs ps count → n ≡ length xs → length ks + 1 ≤ greatest_variable → IsHeaped index (ks ++ 0 ∷ []) (xs ++ n ∷ []) (ps ++ n ∷ []) count
pushed index ks xs ps count n h e few =
    let long : length (ks ++ 0 ∷ []) ≡ length ks + 1 = length-append ks (0 ∷ []) in
    let longer : length (ps ++ n ∷ []) ≡ length ps + 1 = length-append ps (n ∷ []) in
    let more : length (xs ++ n ∷ []) ≡ length xs + 1 = length-append xs (n ∷ []) in
    record {
      row = row-push xs ps n h.row e;
      long = omega (arith, long, longer, h.long);
      few = omega (arith, long, few);
      within = omega (arith, more, h.within);
      order = heap-grown index ks (ks ++ 0 ∷ []) xs (xs ++ n ∷ []) count (λ (k : ℕ) (l : k < count). get_or_append_left xs (n ∷ []) 0 k (omega (arith, h.within))) (λ (k : ℕ) (l : k < count). get_or_append_left ks (0 ∷ []) 0 (at xs k) (below k l)) h.order;
    }
  where
    below : (k : ℕ) → k < count → at xs k < length ks
    below k l = let b = h.row.below k (omega (arith, h.within)) in omega (arith, b, h.long)
