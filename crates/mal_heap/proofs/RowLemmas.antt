use Rattle.std.proofs.Common.{◌≡◌, ◌≢◌, ℕ, ◌+◌, ◌<◌, ◌≤◌, Bool, true, false, List, [], ◌∷◌, ◌++◌, length, get_or, set, replicate, nat_lt, ◌⊎◌, inl, inr, sym, ap, ◌∙◌, length-append, arith}
use Rattle.std.proofs.lemmas.Bool.{cases_eq}
use Rattle.std.proofs.lemmas.Bool.Decides.{nat_tests}
use Rattle.std.proofs.lemmas.List.{get_or-set_same, get_or-set_other, length-set, length-map, get_or-map, ext_get_or, get_or_append_left, get_or_push, map-append}
use Rattle.mal_heap.specs.Rows.{at, IsRow, IsSwap, IsBeside, inside}

lt-is : (a b : ℕ) → a < b → nat_lt a b ≡ true
lt-is a b = grind (arith, nat_tests)

lt-not : (a b : ℕ) → b ≤ a → nat_lt a b ≡ false
lt-not a b = grind (arith, nat_tests)

lt-true : (a b : ℕ) → nat_lt a b ≡ true → a < b
lt-true a b = grind (arith, nat_tests)

lt-false : (a b : ℕ) → nat_lt a b ≡ false → b ≤ a
lt-false a b = grind (arith, nat_tests)

-- two items written in each other's place
pub swap-is : (xs : List ℕ) (i j : ℕ) → i < length xs → j < length xs → IsSwap xs (set (set xs i (at xs j)) j (at xs i)) i j
swap-is xs i j h k =
    let long : j < length (set xs i (at xs j)) = rw (length-set xs i (at xs j)) k in
    record {
      first = by_place long (cases_eq i j);
      second = get_or-set_same (set xs i (at xs j)) j (at xs i) 0 long;
      others = λ (p : ℕ) (n : p ≢ i) (m : p ≢ j). get_or-set_other (set xs i (at xs j)) j p (at xs i) 0 m ∙ get_or-set_other xs i p (at xs j) 0 n;
    }
  where
    by_place : j < length (set xs i (at xs j)) → (i ≡ j) ⊎ (i ≢ j) → at (set (set xs i (at xs j)) j (at xs i)) i ≡ at xs j
    by_place l (inl e) = ap (at (set (set xs i (at xs j)) j (at xs i))) e ∙ (get_or-set_same (set xs i (at xs j)) j (at xs i) 0 l ∙ ap (at xs) e)
    by_place l (inr n) = get_or-set_other (set xs i (at xs j)) j i (at xs i) 0 n ∙ get_or-set_same xs i (at xs j) 0 h

-- the places, where two items are exchanged
record IsMoved (xs ps qs : List ℕ) (i j : ℕ) : Type 0 where
  long : length qs ≡ length ps
  first : at qs (at xs i) ≡ j
  second : at qs (at xs j) ≡ i
  others : (u : ℕ) → u ≢ at xs i → u ≢ at xs j → at qs u ≡ at ps u

moved-is : (xs ps : List ℕ) (i j : ℕ) → IsRow xs ps → i < length xs → j < length xs → IsMoved xs ps (set (set ps (at xs i) j) (at xs j) i) i j
moved-is xs ps i j r h k =
    let low : at xs j < length ps = r.below j k in
    let low2 : at xs i < length ps = r.below i h in
    let long : at xs j < length (set ps (at xs i) j) = rw (length-set ps (at xs i) j) low in
    record {
      long = length-set (set ps (at xs i) j) (at xs j) i ∙ length-set ps (at xs i) j;
      first = by_item low2 long (cases_eq (at xs i) (at xs j));
      second = get_or-set_same (set ps (at xs i) j) (at xs j) i 0 long;
      others = λ (u : ℕ) (n : u ≢ at xs i) (m : u ≢ at xs j). get_or-set_other (set ps (at xs i) j) (at xs j) u i 0 m ∙ get_or-set_other ps (at xs i) u j 0 n;
    }
  where
    by_item : at xs i < length ps → at xs j < length (set ps (at xs i) j) → (at xs i ≡ at xs j) ⊎ (at xs i ≢ at xs j) → at (set (set ps (at xs i) j) (at xs j) i) (at xs i) ≡ j
    by_item l m (inl e) = ap (at (set (set ps (at xs i) j) (at xs j) i)) e ∙ (get_or-set_same (set ps (at xs i) j) (at xs j) i 0 m ∙ (sym (r.listed i h) ∙ (ap (at ps) e ∙ r.listed j k)))
    by_item l m (inr n) = get_or-set_other (set ps (at xs i) j) (at xs j) (at xs i) i 0 n ∙ get_or-set_same ps (at xs i) j 0 l

-- a row stays one
row-moved : (xs ys ps qs : List ℕ) (i j : ℕ) → i < length xs → j < length xs → length ys ≡ length xs → IsSwap xs ys i j → IsMoved xs ps qs i j → IsRow xs ps → IsRow ys qs
row-moved xs ys ps qs i j h k long s m r =
    record {
      same = long ∙ (r.same ∙ sym m.long);
      within = λ (u : ℕ) (l : u < length qs). inside-of u (rw m.long at l) (cases_eq u (at xs i)) (cases_eq u (at xs j));
      placed = λ (u : ℕ) (l : u < length qs). place-of u (rw m.long at l) (cases_eq u (at xs i)) (cases_eq u (at xs j));
      below = λ (p : ℕ) (l : p < length ys). below-of p (rw long at l) (cases_eq p i) (cases_eq p j);
      listed = λ (p : ℕ) (l : p < length ys). list-of p (rw long at l) (cases_eq p i) (cases_eq p j);
    }
  where
    inside-of : (u : ℕ) → u < length ps → (u ≡ at xs i) ⊎ (u ≢ at xs i) → (u ≡ at xs j) ⊎ (u ≢ at xs j) → at qs u < length ys
    inside-of u l (inl e) q = rw (e, m.first, long) k
    inside-of u l (inr n) (inl e) = rw (e, m.second, long) h
    inside-of u l (inr n) (inr o) = rw (m.others u n o, long) (r.within u l)

    place-of : (u : ℕ) → u < length ps → (u ≡ at xs i) ⊎ (u ≢ at xs i) → (u ≡ at xs j) ⊎ (u ≢ at xs j) → at ys (at qs u) ≡ u
    place-of u l (inl e) q = ap (λ (x : ℕ). at ys (at qs x)) e ∙ (ap (at ys) m.first ∙ (s.second ∙ sym e))
    place-of u l (inr n) (inl e) = ap (λ (x : ℕ). at ys (at qs x)) e ∙ (ap (at ys) m.second ∙ (s.first ∙ sym e))
    place-of u l (inr n) (inr o) = ap (at ys) (m.others u n o) ∙ (s.others (at ps u) (λ e. n (sym (r.placed u l) ∙ ap (at xs) e)) (λ e. o (sym (r.placed u l) ∙ ap (at xs) e)) ∙ r.placed u l)

    below-of : (p : ℕ) → p < length xs → (p ≡ i) ⊎ (p ≢ i) → (p ≡ j) ⊎ (p ≢ j) → at ys p < length qs
    below-of p l (inl e) q = rw (e, s.first, m.long) (r.below j k)
    below-of p l (inr n) (inl e) = rw (e, s.second, m.long) (r.below i h)
    below-of p l (inr n) (inr o) = rw (s.others p n o, m.long) (r.below p l)

    list-of : (p : ℕ) → p < length xs → (p ≡ i) ⊎ (p ≢ i) → (p ≡ j) ⊎ (p ≢ j) → at qs (at ys p) ≡ p
    list-of p l (inl e) q = ap (λ (x : ℕ). at qs (at ys x)) e ∙ (ap (at qs) s.first ∙ (m.second ∙ sym e))
    list-of p l (inr n) (inl e) = ap (λ (x : ℕ). at qs (at ys x)) e ∙ (ap (at qs) s.second ∙ (m.first ∙ sym e))
    list-of p l (inr n) (inr o) = ap (at qs) (s.others p n o) ∙ (m.others (at xs p) (λ e. n (sym (r.listed p l) ∙ (ap (at ps) e ∙ r.listed i h))) (λ e. o (sym (r.listed p l) ∙ (ap (at ps) e ∙ r.listed j k))) ∙ r.listed p l)

pub row-swapped : (xs ps : List ℕ) (i j : ℕ) → IsRow xs ps → i < length xs → j < length xs → IsRow (set (set xs i (at xs j)) j (at xs i)) (set (set ps (at xs i) j) (at xs j) i)
row-swapped xs ps i j r h k =
    let long : length (set (set xs i (at xs j)) j (at xs i)) ≡ length xs = length-set (set xs i (at xs j)) j (at xs i) ∙ length-set xs i (at xs j) in
    row-moved xs (set (set xs i (at xs j)) j (at xs i)) ps (set (set ps (at xs i) j) (at xs j) i) i j h k long (swap-is xs i j h k) (moved-is xs ps i j r h k) r

-- whether a number is inside
pub inside-read : (count : ℕ) (ps : List ℕ) (u : ℕ) → u < length ps → get_or (inside count ps) u false ≡ nat_lt (at ps u) count
inside-read count ps u h = get_or-map (λ p. nat_lt p count) ps u 0 false h

pub length-inside : (count : ℕ) (ps : List ℕ) → length (inside count ps) ≡ length ps
length-inside count ps = length-map ps (λ p. nat_lt p count)

pub beside-inside : (i j count : ℕ) → i < count → j < count → IsBeside i j count
beside-inside i j count h k = record { same = lt-is i count h ∙ sym (lt-is j count k) }

pub beside-outside : (i j count : ℕ) → count ≤ i → count ≤ j → IsBeside i j count
beside-outside i j count h k = record { same = lt-not i count h ∙ sym (lt-not j count k) }

pub inside-swapped : (xs ps : List ℕ) (i j count : ℕ) → IsRow xs ps → i < length xs → j < length xs → IsBeside i j count → inside count (set (set ps (at xs i) j) (at xs j) i) ≡ inside count ps
inside-swapped xs ps i j count r h k b =
    let qs : List ℕ = set (set ps (at xs i) j) (at xs j) i in
    let m = moved-is xs ps i j r h k in
    ext_get_or false (inside count qs) (inside count ps) (length-inside count qs ∙ (m.long ∙ sym (length-inside count ps))) (λ (u : ℕ) (l : u < length (inside count qs)).
    let low : u < length qs = rw (length-inside count qs) at l in
    let old : u < length ps = rw m.long at low in
    inside-read count qs u low ∙ (by_item m u old (cases_eq u (at xs i)) (cases_eq u (at xs j)) ∙ sym (inside-read count ps u old)))
  where
    by_item : IsMoved xs ps (set (set ps (at xs i) j) (at xs j) i) i j → (u : ℕ) → u < length ps → (u ≡ at xs i) ⊎ (u ≢ at xs i) → (u ≡ at xs j) ⊎ (u ≢ at xs j) → nat_lt (at (set (set ps (at xs i) j) (at xs j) i) u) count ≡ nat_lt (at ps u) count
    by_item m u l (inl e) q = ap (λ (x : ℕ). nat_lt (at (set (set ps (at xs i) j) (at xs j) i) x) count) e ∙ (ap (λ (x : ℕ). nat_lt x count) m.first ∙ (sym b.same ∙ (ap (λ (x : ℕ). nat_lt x count) (sym (r.listed i h)) ∙ ap (λ (x : ℕ). nat_lt (at ps x) count) (sym e))))
    by_item m u l (inr n) (inl e) = ap (λ (x : ℕ). nat_lt (at (set (set ps (at xs i) j) (at xs j) i) x) count) e ∙ (ap (λ (x : ℕ). nat_lt x count) m.second ∙ (b.same ∙ (ap (λ (x : ℕ). nat_lt x count) (sym (r.listed j k)) ∙ ap (λ (x : ℕ). nat_lt (at ps x) count) (sym e))))
    by_item m u l (inr n) (inr o) = ap (λ (x : ℕ). nat_lt x count) (m.others u n o)

-- one more is inside, the one at the first place outside
pub inside-more : (xs ps : List ℕ) (count : ℕ) → IsRow xs ps → count < length xs → inside (count + 1) ps ≡ set (inside count ps) (at xs count) true
inside-more xs ps count r h =
    let long : length (set (inside count ps) (at xs count) true) ≡ length ps = length-set (inside count ps) (at xs count) true ∙ length-inside count ps in
    ext_get_or false (inside (count + 1) ps) (set (inside count ps) (at xs count) true) (length-inside (count + 1) ps ∙ sym long) (λ (u : ℕ) (l : u < length (inside (count + 1) ps)).
    let low : u < length ps = rw (length-inside (count + 1) ps) at l in
    inside-read (count + 1) ps u low ∙ by_item u low (cases_eq u (at xs count)))
  where
    by_item : (u : ℕ) → u < length ps → (u ≡ at xs count) ⊎ (u ≢ at xs count) → nat_lt (at ps u) (count + 1) ≡ get_or (set (inside count ps) (at xs count) true) u false
    by_item u l (inl e) =
        let here : at ps u ≡ count = ap (at ps) e ∙ r.listed count h in
        let low : at xs count < length (inside count ps) = rw (length-inside count ps) (r.below count h) in
        lt-is (at ps u) (count + 1) (omega arith) ∙ sym (ap (λ (x : ℕ). get_or (set (inside count ps) (at xs count) true) x false) e ∙ get_or-set_same (inside count ps) (at xs count) true false low)
    by_item u l (inr n) =
        let other : at ps u ≢ count = λ e. n (sym (r.placed u l) ∙ ap (at xs) e) in
        same-test (at ps u) count other ∙ sym (get_or-set_other (inside count ps) (at xs count) u true false n ∙ inside-read count ps u l)
      where
        same-test : (a c : ℕ) → a ≢ c → nat_lt a (c + 1) ≡ nat_lt a c
        same-test a c n = grind (arith, nat_tests)

-- one fewer is inside, the one at the last place
pub inside-fewer : (xs ps : List ℕ) (count : ℕ) → IsRow xs ps → count < length xs → inside count ps ≡ set (inside (count + 1) ps) (at xs count) false
inside-fewer xs ps count r h =
    let long : length (set (inside (count + 1) ps) (at xs count) false) ≡ length ps = length-set (inside (count + 1) ps) (at xs count) false ∙ length-inside (count + 1) ps in
    ext_get_or false (inside count ps) (set (inside (count + 1) ps) (at xs count) false) (length-inside count ps ∙ sym long) (λ (u : ℕ) (l : u < length (inside count ps)).
    let low : u < length ps = rw (length-inside count ps) at l in
    inside-read count ps u low ∙ by_item u low (cases_eq u (at xs count)))
  where
    by_item : (u : ℕ) → u < length ps → (u ≡ at xs count) ⊎ (u ≢ at xs count) → nat_lt (at ps u) count ≡ get_or (set (inside (count + 1) ps) (at xs count) false) u false
    by_item u l (inl e) =
        let here : at ps u ≡ count = ap (at ps) e ∙ r.listed count h in
        let low : at xs count < length (inside (count + 1) ps) = rw (length-inside (count + 1) ps) (r.below count h) in
        lt-not (at ps u) count (omega arith) ∙ sym (ap (λ (x : ℕ). get_or (set (inside (count + 1) ps) (at xs count) false) x false) e ∙ get_or-set_same (inside (count + 1) ps) (at xs count) false false low)
    by_item u l (inr n) =
        let other : at ps u ≢ count = λ e. n (sym (r.placed u l) ∙ ap (at xs) e) in
        same-test (at ps u) count other ∙ sym (get_or-set_other (inside (count + 1) ps) (at xs count) u false false n ∙ inside-read (count + 1) ps u l)
      where
        same-test : (a c : ℕ) → a ≢ c → nat_lt a c ≡ nat_lt a (c + 1)
        same-test a c n = grind (arith, nat_tests)

-- one number more, at the end
pub row-push : (xs ps : List ℕ) (n : ℕ) → IsRow xs ps → n ≡ length xs → IsRow (xs ++ n ∷ []) (ps ++ n ∷ [])
row-push xs ps n r e =
    let long : length (xs ++ n ∷ []) ≡ length xs + 1 = length-append xs (n ∷ []) in
    let long2 : length (ps ++ n ∷ []) ≡ length ps + 1 = length-append ps (n ∷ []) in
    let here : at (xs ++ n ∷ []) n ≡ n = get_or_push xs n 0 n (sym e) in
    let here2 : at (ps ++ n ∷ []) n ≡ n = get_or_push ps n 0 n (sym (e ∙ r.same)) in
    record {
      same = omega (arith, r.same);
      within = λ (u : ℕ) (l : u < length (ps ++ n ∷ [])). inside-of long here2 u (omega (arith, long2)) (cases_eq u n);
      placed = λ (u : ℕ) (l : u < length (ps ++ n ∷ [])). place-of here here2 u (omega (arith, long2)) (cases_eq u n);
      below = λ (p : ℕ) (l : p < length (xs ++ n ∷ [])). below-of long2 here p (omega (arith, long)) (cases_eq p n);
      listed = λ (p : ℕ) (l : p < length (xs ++ n ∷ [])). list-of here here2 p (omega (arith, long)) (cases_eq p n);
    }
  where
    old : (u : ℕ) → u < length ps → at (ps ++ n ∷ []) u ≡ at ps u
    old u l = get_or_append_left ps (n ∷ []) 0 u l

    old2 : (u : ℕ) → u < length xs → at (xs ++ n ∷ []) u ≡ at xs u
    old2 u l = get_or_append_left xs (n ∷ []) 0 u l

    inside-of : length (xs ++ n ∷ []) ≡ length xs + 1 → at (ps ++ n ∷ []) n ≡ n → (u : ℕ) → u < length ps + 1 → (u ≡ n) ⊎ (u ≢ n) → at (ps ++ n ∷ []) u < length (xs ++ n ∷ [])
    inside-of q h u l (inl f) = rw (f, h, q) (omega (arith, e))
    inside-of q h u l (inr f) =
        let low : u < length ps = omega (arith, r.same, e) in
        let w = r.within u low in
        rw (old u low, q) (omega arith)

    place-of : at (xs ++ n ∷ []) n ≡ n → at (ps ++ n ∷ []) n ≡ n → (u : ℕ) → u < length ps + 1 → (u ≡ n) ⊎ (u ≢ n) → at (xs ++ n ∷ []) (at (ps ++ n ∷ []) u) ≡ u
    place-of h g u l (inl f) = ap (λ (x : ℕ). at (xs ++ n ∷ []) (at (ps ++ n ∷ []) x)) f ∙ (ap (at (xs ++ n ∷ [])) g ∙ (h ∙ sym f))
    place-of h g u l (inr f) =
        let low : u < length ps = omega (arith, r.same, e) in
        ap (at (xs ++ n ∷ [])) (old u low) ∙ (old2 (at ps u) (r.within u low) ∙ r.placed u low)

    below-of : length (ps ++ n ∷ []) ≡ length ps + 1 → at (xs ++ n ∷ []) n ≡ n → (p : ℕ) → p < length xs + 1 → (p ≡ n) ⊎ (p ≢ n) → at (xs ++ n ∷ []) p < length (ps ++ n ∷ [])
    below-of q h p l (inl f) = rw (f, h, q) (omega (arith, r.same, e))
    below-of q h p l (inr f) =
        let low : p < length xs = omega (arith, e) in
        let w = r.below p low in
        rw (old2 p low, q) (omega arith)

    list-of : at (xs ++ n ∷ []) n ≡ n → at (ps ++ n ∷ []) n ≡ n → (p : ℕ) → p < length xs + 1 → (p ≡ n) ⊎ (p ≢ n) → at (ps ++ n ∷ []) (at (xs ++ n ∷ []) p) ≡ p
    list-of h g p l (inl f) = ap (λ (x : ℕ). at (ps ++ n ∷ []) (at (xs ++ n ∷ []) x)) f ∙ (ap (at (ps ++ n ∷ [])) h ∙ (g ∙ sym f))
    list-of h g p l (inr f) =
        let low : p < length xs = omega (arith, e) in
        ap (at (ps ++ n ∷ [])) (old2 p low) ∙ (old (at xs p) (r.below p low) ∙ r.listed p low)

pub inside-push : (count : ℕ) (ps : List ℕ) (n : ℕ) → count ≤ n → inside count (ps ++ n ∷ []) ≡ inside count ps ++ replicate 1 false
inside-push count ps n h = map-append (λ p. nat_lt p count) ps (n ∷ []) ∙ ap (λ (b : Bool). inside count ps ++ b ∷ []) (lt-not n count h)
