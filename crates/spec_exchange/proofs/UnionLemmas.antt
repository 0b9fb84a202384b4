use Rattle.std.proofs.Common.{◌≡◌, ℕ, List, [], ◌∷◌, ◌++◌, Option, Some, None, refl, sym, ap, ◌∙◌, subst}
use Rattle.std.specs.declared.cmp.Ordering.{Ordering}
use Rattle.std.specs.declared.cmp.Ordering.TheVariants.{Less, Equal, Greater}
use Rattle.mal_base.specs.NumberedClause.{NumberedClause}
use Rattle.spec_exchange.specs.Exchange.{lits_cmp, put_by, put, union, merge_by, merged_from, merged}
use Rattle.spec_exchange.specs.Order.{IsBefore, IsSorted, least_of, own_id, least_id}
use Rattle.spec_exchange.proofs.OrderLemmas.{cmp_same, cmp_itself, cmp_back, least-comm, least-assoc, least-swap, least-shuffle, lesser-lits, own-lesser, before-trans, absent}

put-least : (e : NumberedClause) (xs : List NumberedClause) (a : List ℕ) → least_id a (put e xs) ≡ least_of (own_id a e) (least_id a xs)
put-least e [] a = refl
put-least e (x ∷ xs) a = by_order (lits_cmp e.lits x.lits) refl (put-least e xs a)
  where
    by_order : (o : Ordering) → lits_cmp e.lits x.lits ≡ o → least_id a (put e xs) ≡ least_of (own_id a e) (least_id a xs)
        → least_id a (put_by o e x xs (put e xs)) ≡ least_of (own_id a e) (least_of (own_id a x) (least_id a xs))
    by_order Less h rest = refl
    by_order Equal h rest = ap (λ (o : Option ℕ). least_of o (least_id a xs)) (own-lesser a e x (cmp_same e.lits x.lits h)) ∙ least-assoc (own_id a e) (own_id a x) (least_id a xs)
    by_order Greater h rest = ap (least_of (own_id a x)) rest ∙ least-swap (own_id a x) (own_id a e) (least_id a xs)

put-before : (a : List ℕ) (e : NumberedClause) (xs : List NumberedClause) → lits_cmp a e.lits ≡ Less → IsBefore a xs → IsBefore a (put e xs)
put-before a e [] h b = h
put-before a e (x ∷ xs) h b = by_order (lits_cmp e.lits x.lits) refl
  where
    by_order : (o : Ordering) → lits_cmp e.lits x.lits ≡ o → IsBefore a (put_by o e x xs (put e xs))
    by_order Less q = h
    by_order Equal q = rw (lesser-lits e x (cmp_same e.lits x.lits q)) b
    by_order Greater q = b

put-sorted : (e : NumberedClause) (xs : List NumberedClause) → IsSorted xs → IsSorted (put e xs)
put-sorted e [] s = (s, s)
put-sorted e (x ∷ xs) (b, s) = by_order (lits_cmp e.lits x.lits) refl (put-sorted e xs s)
  where
    by_order : (o : Ordering) → lits_cmp e.lits x.lits ≡ o → IsSorted (put e xs) → IsSorted (put_by o e x xs (put e xs))
    by_order Less q rest = (q, (b, s))
    by_order Equal q rest = (subst (λ (l : List ℕ). IsBefore l xs) (sym (lesser-lits e x (cmp_same e.lits x.lits q))) b, s)
    by_order Greater q rest = (put-before x.lits e xs (cmp_back e.lits x.lits q) b, rest)

pub union-sorted : (es : List NumberedClause) → IsSorted (union es)
union-sorted [] = tt
union-sorted (e ∷ es) = put-sorted e (union es) (union-sorted es)

pub union-least : (es : List NumberedClause) (a : List ℕ) → least_id a (union es) ≡ least_id a es
union-least [] a = refl
union-least (e ∷ es) a = put-least e (union es) a ∙ ap (least_of (own_id a e)) (union-least es a)

pub append-least : (xs ys : List NumberedClause) (a : List ℕ) → least_id a (xs ++ ys) ≡ least_of (least_id a xs) (least_id a ys)
append-least [] ys a = refl
append-least (x ∷ xs) ys a = ap (least_of (own_id a x)) (append-least xs ys a) ∙ sym (least-assoc (own_id a x) (least_id a xs) (least_id a ys))

-- the first of a sorted list has its own number under its literals
own-here : (x : NumberedClause) (xs : List NumberedClause) → IsSorted (x ∷ xs) → least_id x.lits (x ∷ xs) ≡ Some x.id
own-here x xs (b, s) = rw (cmp_itself x.lits, absent x.lits xs s b) refl

-- a sorted list whose first entry comes later has no entry with these literals
not-here : (a : List ℕ) (y : NumberedClause) (ys : List NumberedClause) → IsSorted (y ∷ ys) → lits_cmp a y.lits ≡ Less → least_id a (y ∷ ys) ≡ None
not-here a y ys s h = absent a (y ∷ ys) s h

-- where the first entries are equal and so are all numbers, the numbers after them are
behind : (x y : NumberedClause) (xs ys : List NumberedClause) → x.lits ≡ y.lits → IsSorted (x ∷ xs) → IsSorted (y ∷ ys) → (a : List ℕ) → least_id a (x ∷ xs) ≡ least_id a (y ∷ ys) → least_id a xs ≡ least_id a ys
behind x y xs ys same (b, s) (c, t) a e = by_order (lits_cmp a x.lits) refl
  where
    by_order : (o : Ordering) → lits_cmp a x.lits ≡ o → least_id a xs ≡ least_id a ys
    by_order Less h =
        absent a xs s (before-trans a x xs h b) ∙ sym (absent a ys t (before-trans a y ys (rw (← same) h) c))
    by_order Equal h =
        let here : a ≡ x.lits = cmp_same a x.lits h in
        rw here (absent x.lits xs s b ∙ sym (rw same (absent y.lits ys t c)))
    by_order Greater h =
        let l : least_id a (x ∷ xs) ≡ least_id a xs = rw h refl in
        let g : lits_cmp a y.lits ≡ Greater = rw (← same) h in
        let r : least_id a (y ∷ ys) ≡ least_id a ys = rw g refl in
        sym l ∙ (e ∙ r)

-- entries with one number and the same literals are one
same_entry : (x y : NumberedClause) → x.lits ≡ y.lits → x.id ≡ y.id → x ≡ y
same_entry x y p q = of_parts x.id y.id x.lits y.lits q p
  where
    entry_of : ℕ → List ℕ → NumberedClause
    entry_of i a = record { id = i; lits = a }

    of_parts : (i j : ℕ) (a b : List ℕ) → i ≡ j → a ≡ b → entry_of i a ≡ entry_of j b
    of_parts i j a b e f = rw (e, f) refl

pub decided : (xs ys : List NumberedClause) → IsSorted xs → IsSorted ys → ((a : List ℕ) → least_id a xs ≡ least_id a ys) → xs ≡ ys
decided [] [] s t e = refl
decided [] (y ∷ ys) s t e = absurd (let n : None ≡ Some y.id = e y.lits ∙ own-here y ys t in cc)
decided (x ∷ xs) [] s t e = absurd (let n : Some x.id ≡ None = sym (own-here x xs s) ∙ e x.lits in cc)
decided (x ∷ xs) (y ∷ ys) s t e = by_order (lits_cmp x.lits y.lits) refl (λ h. decided xs ys s.1 t.1 h)
  where
    by_order : (o : Ordering) → lits_cmp x.lits y.lits ≡ o → (((a : List ℕ) → least_id a xs ≡ least_id a ys) → xs ≡ ys) → x ∷ xs ≡ y ∷ ys
    by_order Less h rest = absurd (let n : Some x.id ≡ None = sym (own-here x xs s) ∙ (e x.lits ∙ not-here x.lits y ys t h) in cc)
    by_order Greater h rest = absurd (let n : Some y.id ≡ None = sym (own-here y ys t) ∙ (sym (e y.lits) ∙ not-here y.lits x xs s (cmp_back x.lits y.lits h)) in cc)
    by_order Equal h rest =
        let same : x.lits ≡ y.lits = cmp_same x.lits y.lits h in
        let a : Some x.id ≡ least_id x.lits (y ∷ ys) = sym (own-here x xs s) ∙ e x.lits in
        let b : Some x.id ≡ Some y.id = a ∙ subst (λ (l : List ℕ). least_id l (y ∷ ys) ≡ Some y.id) (sym same) (own-here y ys t) in
        let i : x.id ≡ y.id = cc in
        let r : xs ≡ ys = rest (λ l. behind x y xs ys same s t l (e l)) in
        let q : x ≡ y = same_entry x y same i in
        cc (q, r)

pub order-free : (xs ys : List NumberedClause) → union (xs ++ ys) ≡ union (ys ++ xs)
order-free xs ys = decided (union (xs ++ ys)) (union (ys ++ xs)) (union-sorted (xs ++ ys)) (union-sorted (ys ++ xs)) (λ a.
    union-least (xs ++ ys) a ∙ (append-least xs ys a ∙ (least-comm (least_id a xs) (least_id a ys) ∙ (sym (append-least ys xs a) ∙ sym (union-least (ys ++ xs) a)))))

pub of-unions : (xs ys : List NumberedClause) → union (union xs ++ ys) ≡ union (xs ++ ys)
of-unions xs ys = decided (union (union xs ++ ys)) (union (xs ++ ys)) (union-sorted (union xs ++ ys)) (union-sorted (xs ++ ys)) (λ a.
    union-least (union xs ++ ys) a ∙ (append-least (union xs) ys a ∙ (ap (λ (o : Option ℕ). least_of o (least_id a ys)) (union-least xs a) ∙ (sym (append-least xs ys a) ∙ sym (union-least (xs ++ ys) a)))))

-- merging
into-least : (x : NumberedClause) (xs : List NumberedClause) (a : List ℕ) → ((ys : List NumberedClause) → least_id a (merged xs ys) ≡ least_of (least_id a xs) (least_id a ys))
    → (ys : List NumberedClause) → least_id a (merged_from x (merged xs) ys) ≡ least_of (least_of (own_id a x) (least_id a xs)) (least_id a ys)
into-least x xs a rest [] = ap (least_of (own_id a x)) (rest []) ∙ sym (least-assoc (own_id a x) (least_id a xs) None)
into-least x xs a rest (y ∷ ys) = by_order (lits_cmp x.lits y.lits) refl (into-least x xs a rest ys)
  where
    by_order : (o : Ordering) → lits_cmp x.lits y.lits ≡ o → least_id a (merged_from x (merged xs) ys) ≡ least_of (least_of (own_id a x) (least_id a xs)) (least_id a ys)
        → least_id a (merge_by o x y (merged xs (y ∷ ys)) (merged xs ys) (merged_from x (merged xs) ys)) ≡ least_of (least_of (own_id a x) (least_id a xs)) (least_of (own_id a y) (least_id a ys))
    by_order Less h later = ap (least_of (own_id a x)) (rest (y ∷ ys)) ∙ sym (least-assoc (own_id a x) (least_id a xs) (least_of (own_id a y) (least_id a ys)))
    by_order Equal h later =
        ap (λ (o : Option ℕ). least_of o (least_id a (merged xs ys))) (own-lesser a x y (cmp_same x.lits y.lits h))
        ∙ (ap (least_of (least_of (own_id a x) (own_id a y))) (rest ys) ∙ least-shuffle (own_id a x) (own_id a y) (least_id a xs) (least_id a ys))
    by_order Greater h later = ap (least_of (own_id a y)) later ∙ least-swap (own_id a y) (least_of (own_id a x) (least_id a xs)) (least_id a ys)

pub merged-least : (xs ys : List NumberedClause) (a : List ℕ) → least_id a (merged xs ys) ≡ least_of (least_id a xs) (least_id a ys)
merged-least [] ys a = refl
merged-least (x ∷ xs) ys a = into-least x xs a (λ zs. merged-least xs zs a) ys

into-before : (a : List ℕ) (x : NumberedClause) (xs ys : List NumberedClause) → lits_cmp a x.lits ≡ Less → IsBefore a ys → IsBefore a (merged_from x (merged xs) ys)
into-before a x xs [] h b = h
into-before a x xs (y ∷ ys) h b = by_order (lits_cmp x.lits y.lits) refl
  where
    by_order : (o : Ordering) → lits_cmp x.lits y.lits ≡ o → IsBefore a (merge_by o x y (merged xs (y ∷ ys)) (merged xs ys) (merged_from x (merged xs) ys))
    by_order Less q = h
    by_order Equal q = rw (lesser-lits x y (cmp_same x.lits y.lits q)) b
    by_order Greater q = b

merged-before : (a : List ℕ) (xs ys : List NumberedClause) → IsBefore a xs → IsBefore a ys → IsBefore a (merged xs ys)
merged-before a [] ys b c = c
merged-before a (x ∷ xs) ys b c = into-before a x xs ys b c

into-sorted : (x : NumberedClause) (xs : List NumberedClause) → IsSorted (x ∷ xs) → ((ys : List NumberedClause) → IsSorted ys → IsSorted (merged xs ys)) → (ys : List NumberedClause) → IsSorted ys → IsSorted (merged_from x (merged xs) ys)
into-sorted x xs (b, s) rest [] t = (merged-before x.lits xs [] b tt, rest [] t)
into-sorted x xs (b, s) rest (y ∷ ys) (c, t) = by_order (lits_cmp x.lits y.lits) refl (into-sorted x xs (b, s) rest ys t)
  where
    by_order : (o : Ordering) → lits_cmp x.lits y.lits ≡ o → IsSorted (merged_from x (merged xs) ys) → IsSorted (merge_by o x y (merged xs (y ∷ ys)) (merged xs ys) (merged_from x (merged xs) ys))
    by_order Less h later = (merged-before x.lits xs (y ∷ ys) b h, rest (y ∷ ys) (c, t))
    by_order Equal h later =
        let same : x.lits ≡ y.lits = cmp_same x.lits y.lits h in
        let d : IsBefore y.lits (merged xs ys) = merged-before y.lits xs ys (subst (λ (l : List ℕ). IsBefore l xs) same b) c in
        (subst (λ (l : List ℕ). IsBefore l (merged xs ys)) (sym (lesser-lits x y same)) d, rest ys t)
    by_order Greater h later = (into-before y.lits x xs ys (cmp_back x.lits y.lits h) c, later)

pub merged-sorted : (xs ys : List NumberedClause) → IsSorted xs → IsSorted ys → IsSorted (merged xs ys)
merged-sorted [] ys s t = t
merged-sorted (x ∷ xs) ys s t = into-sorted x xs s (λ zs u. merged-sorted xs zs s.1 u) ys t

-- merging sorted lists is their union
pub merged-union : (xs ys : List NumberedClause) → IsSorted xs → IsSorted ys → merged xs ys ≡ union (xs ++ ys)
merged-union xs ys s t = decided (merged xs ys) (union (xs ++ ys)) (merged-sorted xs ys s t) (union-sorted (xs ++ ys)) (λ a.
    merged-least xs ys a ∙ (sym (append-least xs ys a) ∙ sym (union-least (xs ++ ys) a)))

-- of a sorted list and some entries
pub union-prefix : (xs ys : List NumberedClause) → IsSorted xs → union (xs ++ ys) ≡ merged xs (union ys)
union-prefix xs ys s = decided (union (xs ++ ys)) (merged xs (union ys)) (union-sorted (xs ++ ys)) (merged-sorted xs (union ys) s (union-sorted ys)) (λ a.
    union-least (xs ++ ys) a ∙ (append-least xs ys a ∙ (ap (least_of (least_id a xs)) (sym (union-least ys a)) ∙ sym (merged-least xs (union ys) a))))

-- merging with nothing
pub merged-nothing : (xs : List NumberedClause) → merged xs [] ≡ xs
merged-nothing [] = refl
merged-nothing (x ∷ xs) = ap (λ (r : List NumberedClause). x ∷ r) (merged-nothing xs)
