-- Entries that are sorted by clause and number, and then each clause once.
use Rattle.std.proofs.Common.{◌≡◌, ℕ, suc, ◌+◌, ◌<◌, ◌≤◌, min, Bool, true, false, cond, nat_le, ◌&&◌, ◌||◌, List, [], ◌∷◌, get_or, Option, Some, None, refl, sym, ap, ◌∙◌, subst, arith}
use Rattle.std.proofs.lemmas.Bool.{leb-true, leb-false, le-leb, lt-leb}
use Rattle.std.proofs.lemmas.Cmp.{then_total, nat_cmp_total}
use Rattle.std.proofs.lemmas.List.Sorted.{ranks_by, list_any-IsPermutation}
use Rattle.std.specs.Cmp.{IsTotalOrder, IsStrictWeakOrder, on_total, ranks}
use Rattle.std.specs.Cmp.Lexicographic.{on_texts}
use Rattle.std.specs.List.{dedup, dedup_from, list_any}
use Rattle.std.specs.List.Sorted.{IsPermutation, IsSortedBy}
use Rattle.std.specs.declared.cmp.Ordering.{Ordering}
use Rattle.std.specs.declared.cmp.Ordering.TheVariants.{Less, Equal, Greater}
use Rattle.std.specs.Ordering.{is_eq, is_lt, nat_cmp, ordering_then, MatchOrdering}
use Rattle.mal_base.specs.NumberedClause.{NumberedClause}
use Rattle.spec_exchange.specs.Exchange.{sized, lits_cmp, union}
use Rattle.spec_exchange.specs.Order.{IsBefore, IsSorted, entry_cmp, has_same_lits, least_of, own_id, least_id}
use Rattle.spec_exchange.proofs.OrderLemmas.{cmp_same, cmp_back, least-assoc}
use Rattle.spec_exchange.proofs.UnionLemmas.{union-sorted, union-least, decided}

-- the order of entries is one
entries-total : IsTotalOrder entry_cmp
entries-total = then_total (on_texts (λ (e : NumberedClause). sized e.lits)) (on_total (λ (e : NumberedClause). e.id) nat_cmp_total)

abbrev pub comes_before : NumberedClause → NumberedClause → Bool
comes_before e x = is_lt (entry_cmp e x)

pub entries-rank : IsStrictWeakOrder comes_before
entries-rank = ranks_by entries-total (λ (e : NumberedClause). e)

-- the least number under a list of literals, by tests of single entries
abbrev has_within : List ℕ → ℕ → NumberedClause → Bool
has_within lits n e = is_eq (lits_cmp lits e.lits) && nat_le e.id n

abbrev is_within : Option ℕ → ℕ → Bool
is_within None n = false
is_within (Some m) n = nat_le m n

least-within : (a b : Option ℕ) (n : ℕ) → is_within (least_of a b) n ≡ (is_within a n || is_within b n)
least-within None b n = refl
least-within (Some a) None n = by_test (nat_le a n)
  where
    by_test : (t : Bool) → t ≡ (t || false)
    by_test true = refl
    by_test false = refl
least-within (Some a) (Some b) n = by_tests (nat_le a n) (nat_le b n) refl refl
  where
    by_tests : (s t : Bool) → nat_le a n ≡ s → nat_le b n ≡ t → nat_le (min a b) n ≡ (s || t)
    by_tests true t h k = let l : a ≤ n = leb-true a n h in le-leb (min a b) n (omega arith)
    by_tests false true h k = let l : b ≤ n = leb-true b n k in le-leb (min a b) n (omega arith)
    by_tests false false h k =
        let l : n < a = leb-false a n h in
        let r : n < b = leb-false b n k in
        lt-leb (min a b) n (omega arith)

any-within : (lits : List ℕ) (n : ℕ) (es : List NumberedClause) → list_any (has_within lits n) es ≡ is_within (least_id lits es) n
any-within lits n [] = refl
any-within lits n (e ∷ es) =
    ap (λ (b : Bool). has_within lits n e || b) (any-within lits n es)
    ∙ (ap (λ (b : Bool). b || is_within (least_id lits es) n) (by_test (is_eq (lits_cmp lits e.lits)))
    ∙ sym (least-within (own_id lits e) (least_id lits es) n))
  where
    by_test : (b : Bool) → (b && nat_le e.id n) ≡ is_within (cond b (Some e.id) None) n
    by_test true = refl
    by_test false = refl

within-same : (a b : Option ℕ) → ((n : ℕ) → is_within a n ≡ is_within b n) → a ≡ b
within-same None None h = refl
within-same None (Some b) h = absurd (let e : false ≡ true = h b ∙ le-leb b b (omega arith) in cc)
within-same (Some a) None h = absurd (let e : false ≡ true = sym (h a) ∙ le-leb a a (omega arith) in cc)
within-same (Some a) (Some b) h =
    let up : b ≤ a = leb-true b a (sym (h a) ∙ le-leb a a (omega arith)) in
    let down : a ≤ b = leb-true a b (h b ∙ le-leb b b (omega arith)) in
    let same : a ≡ b = omega arith in
    ap (λ (n : ℕ). Some n) same

-- the order of the entries does not matter
pub permuted-least : (es xs : List NumberedClause) (lits : List ℕ) → IsPermutation es xs → least_id lits xs ≡ least_id lits es
permuted-least es xs lits p = within-same (least_id lits xs) (least_id lits es) (λ n. sym (any-within lits n xs) ∙ (sym (list_any-IsPermutation (has_within lits n) es xs p) ∙ any-within lits n es))

-- sorted entries, step by step
abbrev IsNoLess : NumberedClause → List NumberedClause → Type 0
IsNoLess e [] = Unit {0}
IsNoLess e (x ∷ xs) = comes_before x e ≡ false

abbrev Ascends : List NumberedClause → Type 0
Ascends [] = Unit {0}
Ascends (x ∷ xs) = IsNoLess x xs × Ascends xs

ascends-from : (xs : List NumberedClause) → IsSortedBy comes_before xs → Ascends xs
ascends-from [] h = tt
ascends-from (x ∷ []) h = (tt, tt)
ascends-from (x ∷ y ∷ ys) h = (h 0 x (omega arith) (omega arith), ascends-from (y ∷ ys) (λ k d low high. let next : suc k + 1 ≡ suc (k + 1) = omega arith in subst (λ (n : ℕ). comes_before (get_or (x ∷ y ∷ ys) n d) (get_or (y ∷ ys) k d) ≡ false) next (h (suc k) d (omega arith) (omega (arith, high)))))

-- what comes next where one entry is left out
ascends-past : (e x : NumberedClause) (xs : List NumberedClause) → Ascends (e ∷ x ∷ xs) → Ascends (e ∷ xs)
ascends-past e x [] h = (tt, tt)
ascends-past e x (y ∷ ys) h = (entries-rank.chain y x e h.1.0 h.0, h.1.1)

-- of two neighbours with the same literals the first has the least number
first-lesser : (e x : NumberedClause) → comes_before x e ≡ false → lits_cmp x.lits e.lits ≡ Equal → e.id ≤ x.id
first-lesser e x h same = by_rank (nat_cmp x.id e.id) (ranks x.id e.id) (ap (λ (o : Ordering). is_lt (ordering_then o (nat_cmp x.id e.id))) (sym same) ∙ h)
  where
    by_rank : (o : Ordering) → MatchOrdering o (x.id < e.id) (x.id ≡ e.id) (e.id < x.id) → is_lt o ≡ false → e.id ≤ x.id
    by_rank Less r k = absurd (cc)
    by_rank Equal r k = omega arith
    by_rank Greater r k = omega arith

-- the others come after it
first-before : (e x : NumberedClause) → comes_before x e ≡ false → has_same_lits x e ≡ false → lits_cmp e.lits x.lits ≡ Less
first-before e x h other = by_order (lits_cmp x.lits e.lits) refl h other
  where
    by_order : (o : Ordering) → lits_cmp x.lits e.lits ≡ o → is_lt (ordering_then o (nat_cmp x.id e.id)) ≡ false → is_eq o ≡ false → lits_cmp e.lits x.lits ≡ Less
    by_order Less q k l = absurd (cc)
    by_order Equal q k l = absurd (cc)
    by_order Greater q k l = cmp_back x.lits e.lits q

once-before : (lits : List ℕ) (e : NumberedClause) (xs : List NumberedClause) → lits_cmp lits e.lits ≡ Less → IsBefore lits (dedup_from has_same_lits e xs)
once-before lits e [] h = h
once-before lits e (x ∷ xs) h = by_test (has_same_lits x e) (once-before lits e xs h)
  where
    by_test : (b : Bool) → IsBefore lits (dedup_from has_same_lits e xs) → IsBefore lits (cond b (dedup_from has_same_lits e xs) (e ∷ dedup_from has_same_lits x xs))
    by_test true rest = rest
    by_test false rest = h

once-sorted : (e : NumberedClause) (xs : List NumberedClause) → Ascends (e ∷ xs) → IsSorted (dedup_from has_same_lits e xs)
once-sorted e [] h = (tt, tt)
once-sorted e (x ∷ xs) h = by_test (has_same_lits x e) refl (once-sorted e xs (ascends-past e x xs h)) (once-sorted x xs h.1)
  where
    by_test : (b : Bool) → has_same_lits x e ≡ b → IsSorted (dedup_from has_same_lits e xs) → IsSorted (dedup_from has_same_lits x xs) → IsSorted (cond b (dedup_from has_same_lits e xs) (e ∷ dedup_from has_same_lits x xs))
    by_test true q here there = here
    by_test false q here there = (once-before e.lits x xs (first-before e x h.0 q), there)

once-least : (e : NumberedClause) (xs : List NumberedClause) (lits : List ℕ) → Ascends (e ∷ xs) → least_id lits (dedup_from has_same_lits e xs) ≡ least_of (own_id lits e) (least_id lits xs)
once-least e [] lits h = refl
once-least e (x ∷ xs) lits h = by_order (lits_cmp x.lits e.lits) refl (once-least e xs lits (ascends-past e x xs h)) (once-least x xs lits h.1)
  where
    by_test : (b : Bool) (m n : ℕ) → m ≤ n → cond b (Some m) None ≡ least_of (cond b (Some m) None) (cond b (Some n) None)
    by_test true m n low = let same : min m n ≡ m = omega arith in ap (λ (k : ℕ). Some k) (sym same)
    by_test false m n low = refl

    kept : x.lits ≡ e.lits → e.id ≤ x.id → own_id lits e ≡ least_of (own_id lits e) (own_id lits x)
    kept same low = subst (λ (ls : List ℕ). own_id lits e ≡ least_of (own_id lits e) (cond (is_eq (lits_cmp lits ls)) (Some x.id) None)) (sym same) (by_test (is_eq (lits_cmp lits e.lits)) e.id x.id low)

    by_order : (o : Ordering) → lits_cmp x.lits e.lits ≡ o
        → least_id lits (dedup_from has_same_lits e xs) ≡ least_of (own_id lits e) (least_id lits xs)
        → least_id lits (dedup_from has_same_lits x xs) ≡ least_of (own_id lits x) (least_id lits xs)
        → least_id lits (cond (is_eq o) (dedup_from has_same_lits e xs) (e ∷ dedup_from has_same_lits x xs)) ≡ least_of (own_id lits e) (least_of (own_id lits x) (least_id lits xs))
    by_order Less q here there = ap (least_of (own_id lits e)) there
    by_order Equal q here there =
        here
        ∙ (ap (λ (o : Option ℕ). least_of o (least_id lits xs)) (kept (cmp_same x.lits e.lits q) (first-lesser e x h.0 q))
        ∙ least-assoc (own_id lits e) (own_id lits x) (least_id lits xs))
    by_order Greater q here there = ap (least_of (own_id lits e)) there

deduped-sorted : (xs : List NumberedClause) → Ascends xs → IsSorted (dedup has_same_lits xs)
deduped-sorted [] h = tt
deduped-sorted (x ∷ xs) h = once-sorted x xs h

deduped-least : (xs : List NumberedClause) (lits : List ℕ) → Ascends xs → least_id lits (dedup has_same_lits xs) ≡ least_id lits xs
deduped-least [] lits h = refl
deduped-least (x ∷ xs) lits h = once-least x xs lits h

pub sorts-once : (es xs : List NumberedClause) → IsPermutation es xs → IsSortedBy comes_before xs → dedup has_same_lits xs ≡ union es
sorts-once es xs p s =
    let up : Ascends xs = ascends-from xs s in
    decided (dedup has_same_lits xs) (union es) (deduped-sorted xs up) (union-sorted es) (λ lits.
    deduped-least xs lits up ∙ (permuted-least es xs lits p ∙ sym (union-least es lits)))
