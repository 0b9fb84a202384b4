use Rattle.std.proofs.Common.{◌≡◌, ℕ, ◌+◌, ◌-◌, ◌<◌, ◌≤◌, Bool, true, false, nat_le, List, [], ◌∷◌, ◌++◌, length, refl, sym, ap, ◌∙◌, arith, if◌then◌else◌}
use Rattle.std.proofs.lemmas.Bool.{leb-true, leb-false, le-leb, lt-leb}
use Rattle.std.proofs.lemmas.List.Sums.{sum_by-cons}
use Rattle.std.specs.declared.cmp.Ordering.{Ordering}
use Rattle.std.specs.declared.cmp.Ordering.TheVariants.{Less, Equal, Greater}
use Rattle.mal_base.specs.NumberedClause.{NumberedClause}
use Rattle.spec_exchange.specs.Exchange.{lits_cmp, lesser, union, merge_by, merged_from, merged, prefix}
use Rattle.spec_exchange.specs.Order.{IsBefore, IsSorted}
use Rattle.spec_exchange.specs.Laws.{literals_in, IsLongestPrefix}
use Rattle.spec_exchange.proofs.OrderLemmas.{cmp_same, less-length, lesser-lits}
use Rattle.spec_exchange.proofs.UnionLemmas.{union-sorted, union-prefix, of-unions}

-- an entry that fits is the first of the prefix, and one that does not fit ends it
prefix-fits : (room : ℕ) (e : NumberedClause) (es : List NumberedClause) → length e.lits ≤ room → prefix room (e ∷ es) ≡ e ∷ prefix (room - length e.lits) es
prefix-fits room e es h = rw (le-leb (length e.lits) room h) refl

prefix-ends : (room : ℕ) (e : NumberedClause) (es : List NumberedClause) → room < length e.lits → prefix room (e ∷ es) ≡ []
prefix-ends room e es h = rw (lt-leb (length e.lits) room h) refl

-- the prefix of a prefix
pub prefix-prefix : (k m : ℕ) (es : List NumberedClause) → k ≤ m → prefix k (prefix m es) ≡ prefix k es
prefix-prefix k m [] h = refl
prefix-prefix k m (e ∷ es) h = by_fit (nat_le (length e.lits) m) refl (λ fits. prefix-prefix (k - length e.lits) (m - length e.lits) es (omega arith))
  where
    by_least : (c : Bool) → nat_le (length e.lits) k ≡ c → (length e.lits ≤ k → prefix (k - length e.lits) (prefix (m - length e.lits) es) ≡ prefix (k - length e.lits) es) → prefix k (e ∷ prefix (m - length e.lits) es) ≡ prefix k (e ∷ es)
    by_least true q rest =
        let fits : length e.lits ≤ k = leb-true (length e.lits) k q in
        prefix-fits k e (prefix (m - length e.lits) es) fits ∙ (ap (λ (r : List NumberedClause). e ∷ r) (rest fits) ∙ sym (prefix-fits k e es fits))
    by_least false q rest =
        let over : k < length e.lits = leb-false (length e.lits) k q in
        prefix-ends k e (prefix (m - length e.lits) es) over ∙ sym (prefix-ends k e es over)

    by_fit : (b : Bool) → nat_le (length e.lits) m ≡ b → (length e.lits ≤ k → prefix (k - length e.lits) (prefix (m - length e.lits) es) ≡ prefix (k - length e.lits) es) → prefix k (if b then e ∷ prefix (m - length e.lits) es else []) ≡ prefix k (e ∷ es)
    by_fit true q rest = by_least (nat_le (length e.lits) k) refl rest
    by_fit false q rest = let over : m < length e.lits = leb-false (length e.lits) m q in sym (prefix-ends k e es (omega arith))

-- an entry that does not fit, and what stands after it, changes nothing
prefix-without : (k : ℕ) (x : NumberedClause) (rest : List NumberedClause → List NumberedClause) (ys : List NumberedClause) → k < length x.lits → prefix k (merged_from x rest ys) ≡ prefix k ys
prefix-without k x rest [] over = prefix-ends k x (rest []) over
prefix-without k x rest (y ∷ ys) over =
    by_order (lits_cmp x.lits y.lits) refl (λ fits. prefix-without (k - length y.lits) x rest ys (omega arith))
  where
    by_fit : (b : Bool) → nat_le (length y.lits) k ≡ b → (length y.lits ≤ k → prefix (k - length y.lits) (merged_from x rest ys) ≡ prefix (k - length y.lits) ys) → prefix k (y ∷ merged_from x rest ys) ≡ prefix k (y ∷ ys)
    by_fit true q later =
        let fits : length y.lits ≤ k = leb-true (length y.lits) k q in
        prefix-fits k y (merged_from x rest ys) fits ∙ (ap (λ (r : List NumberedClause). y ∷ r) (later fits) ∙ sym (prefix-fits k y ys fits))
    by_fit false q later =
        let above : k < length y.lits = leb-false (length y.lits) k q in
        prefix-ends k y (merged_from x rest ys) above ∙ sym (prefix-ends k y ys above)

    by_order : (o : Ordering) → lits_cmp x.lits y.lits ≡ o → (length y.lits ≤ k → prefix (k - length y.lits) (merged_from x rest ys) ≡ prefix (k - length y.lits) ys)
        → prefix k (merge_by o x y (rest (y ∷ ys)) (rest ys) (merged_from x rest ys)) ≡ prefix k (y ∷ ys)
    by_order Less h later =
        let longer : length x.lits ≤ length y.lits = less-length x.lits y.lits h in
        prefix-ends k x (rest (y ∷ ys)) over ∙ sym (prefix-ends k y ys (omega arith))
    by_order Equal h later =
        let same : x.lits ≡ y.lits = cmp_same x.lits y.lits h in
        let long : k < length y.lits = rw (← same) over in
        prefix-ends k (lesser x y) (rest ys) (rw (lesser-lits x y same) long) ∙ sym (prefix-ends k y ys long)
    by_order Greater h later = by_fit (nat_le (length y.lits) k) refl later

-- cutting the first list early changes nothing
early_into : (k m : ℕ) (x : NumberedClause) (xs : List NumberedClause) → length x.lits ≤ m
    → ((j l : ℕ) (zs : List NumberedClause) → j ≤ l → prefix j (merged (prefix l xs) zs) ≡ prefix j (merged xs zs))
    → (ys : List NumberedClause) → k ≤ m → prefix k (merged_from x (merged (prefix (m - length x.lits) xs)) ys) ≡ prefix k (merged_from x (merged xs) ys)
early_into k m x xs fits rest [] h = by_fit (nat_le (length x.lits) k) refl
  where
    by_fit : (b : Bool) → nat_le (length x.lits) k ≡ b → prefix k (x ∷ merged (prefix (m - length x.lits) xs) []) ≡ prefix k (x ∷ merged xs [])
    by_fit true q =
        let small : length x.lits ≤ k = leb-true (length x.lits) k q in
        prefix-fits k x (merged (prefix (m - length x.lits) xs) []) small ∙ (ap (λ (r : List NumberedClause). x ∷ r) (rest (k - length x.lits) (m - length x.lits) [] (omega arith)) ∙ sym (prefix-fits k x (merged xs []) small))
    by_fit false q =
        let over : k < length x.lits = leb-false (length x.lits) k q in
        prefix-ends k x (merged (prefix (m - length x.lits) xs) []) over ∙ sym (prefix-ends k x (merged xs []) over)
early_into k m x xs fits rest (y ∷ ys) h =
    by_order (lits_cmp x.lits y.lits) refl (early_into (k - length y.lits) m x xs fits rest ys (omega arith))
  where
    -- one entry before two lists
    ahead : (e : NumberedClause) (us vs : List NumberedClause) → (length e.lits ≤ k → prefix (k - length e.lits) us ≡ prefix (k - length e.lits) vs) → (b : Bool) → nat_le (length e.lits) k ≡ b → prefix k (e ∷ us) ≡ prefix k (e ∷ vs)
    ahead e us vs later true q =
        let small : length e.lits ≤ k = leb-true (length e.lits) k q in
        prefix-fits k e us small ∙ (ap (λ (r : List NumberedClause). e ∷ r) (later small) ∙ sym (prefix-fits k e vs small))
    ahead e us vs later false q =
        let over : k < length e.lits = leb-false (length e.lits) k q in
        prefix-ends k e us over ∙ sym (prefix-ends k e vs over)

    by_order : (o : Ordering) → lits_cmp x.lits y.lits ≡ o
        → prefix (k - length y.lits) (merged_from x (merged (prefix (m - length x.lits) xs)) ys) ≡ prefix (k - length y.lits) (merged_from x (merged xs) ys)
        → prefix k (merge_by o x y (merged (prefix (m - length x.lits) xs) (y ∷ ys)) (merged (prefix (m - length x.lits) xs) ys) (merged_from x (merged (prefix (m - length x.lits) xs)) ys))
        ≡ prefix k (merge_by o x y (merged xs (y ∷ ys)) (merged xs ys) (merged_from x (merged xs) ys))
    by_order Less q later = ahead x _ _ (λ small. rest (k - length x.lits) (m - length x.lits) (y ∷ ys) (omega arith)) (nat_le (length x.lits) k) refl
    by_order Equal q later =
        let same : (lesser x y).lits ≡ x.lits = lesser-lits x y (cmp_same x.lits y.lits q) ∙ sym (cmp_same x.lits y.lits q) in
        let long : length (lesser x y).lits ≡ length x.lits = ap length same in
        ahead (lesser x y) _ _ (λ small. rest (k - length (lesser x y).lits) (m - length x.lits) ys (omega arith)) (nat_le (length (lesser x y).lits) k) refl
    by_order Greater q later = ahead y _ _ (λ small. later) (nat_le (length y.lits) k) refl

pub early : (k m : ℕ) (xs ys : List NumberedClause) → k ≤ m → prefix k (merged (prefix m xs) ys) ≡ prefix k (merged xs ys)
early k m [] ys h = refl
early k m (x ∷ xs) ys h = by_fit (nat_le (length x.lits) m) refl (λ j l zs. early j l xs zs)
  where
    by_fit : (b : Bool) → nat_le (length x.lits) m ≡ b → ((j l : ℕ) (zs : List NumberedClause) → j ≤ l → prefix j (merged (prefix l xs) zs) ≡ prefix j (merged xs zs))
        → prefix k (merged (if b then x ∷ prefix (m - length x.lits) xs else []) ys) ≡ prefix k (merged_from x (merged xs) ys)
    by_fit true q rest = early_into k m x xs (leb-true (length x.lits) m q) rest ys h
    by_fit false q rest = let over : m < length x.lits = leb-false (length x.lits) m q in sym (prefix-without k x (merged xs) ys (omega arith))

prefix-before : (a : List ℕ) (room : ℕ) (es : List NumberedClause) → IsBefore a es → IsBefore a (prefix room es)
prefix-before a room [] b = b
prefix-before a room (e ∷ es) b = by_fit (nat_le (length e.lits) room)
  where
    by_fit : (c : Bool) → IsBefore a (if c then e ∷ prefix (room - length e.lits) es else [])
    by_fit true = b
    by_fit false = tt

pub prefix-sorted : (room : ℕ) (es : List NumberedClause) → IsSorted es → IsSorted (prefix room es)
prefix-sorted room [] s = s
prefix-sorted room (e ∷ es) (b, s) = by_fit (nat_le (length e.lits) room) (prefix-sorted (room - length e.lits) es s)
  where
    by_fit : (c : Bool) → IsSorted (prefix (room - length e.lits) es) → IsSorted (if c then e ∷ prefix (room - length e.lits) es else [])
    by_fit true rest = (prefix-before e.lits (room - length e.lits) es b, rest)
    by_fit false rest = tt

pub cuts-early : (room : ℕ) (xs ys : List NumberedClause) → prefix room (union (prefix room (union xs) ++ ys)) ≡ prefix room (union (xs ++ ys))
cuts-early room xs ys =
    let s : IsSorted (union xs) = union-sorted xs in
    let a : union (prefix room (union xs) ++ ys) ≡ merged (prefix room (union xs)) (union ys) = union-prefix (prefix room (union xs)) ys (prefix-sorted room (union xs) s) in
    let b : union (union xs ++ ys) ≡ merged (union xs) (union ys) = union-prefix (union xs) ys s in
    ap (prefix room) a ∙ (early room room (union xs) (union ys) (omega arith) ∙ (ap (prefix room) (sym b) ∙ ap (prefix room) (of-unions xs ys)))

pub longest : (room : ℕ) (es : List NumberedClause) → IsLongestPrefix room es
longest room [] = record { fits = omega arith; is_prefix = ([], refl, λ e others h. absurd (cc)) }
longest room (e ∷ es) = by_fit (nat_le (length e.lits) room) refl (longest (room - length e.lits) es)
  where
    sum : (xs : List NumberedClause) → literals_in (e ∷ xs) ≡ length e.lits + literals_in xs
    sum xs = sum_by-cons (λ (x : NumberedClause). length x.lits) e xs

    by_fit : (b : Bool) → nat_le (length e.lits) room ≡ b → IsLongestPrefix (room - length e.lits) es → IsLongestPrefix room (e ∷ es)
    by_fit true q rest =
        let small : length e.lits ≤ room = leb-true (length e.lits) room q in
        let is : prefix room (e ∷ es) ≡ e ∷ prefix (room - length e.lits) es = prefix-fits room e es small in
        let within : literals_in (prefix (room - length e.lits) es) ≤ room - length e.lits = rest.fits in
        record {
          fits = rw is (omega (arith, sum (prefix (room - length e.lits) es)));
          is_prefix = (rest.is_prefix.0, rw is (ap (λ (r : List NumberedClause). e ∷ r) rest.is_prefix.1), λ x others h. rw is (let over = rest.is_prefix.2 x others h in omega (arith, sum (prefix (room - length e.lits) es), over)));
        }
    by_fit false q rest =
        let over : room < length e.lits = leb-false (length e.lits) room q in
        let is : prefix room (e ∷ es) ≡ [] = prefix-ends room e es over in
        record {
          fits = rw is (omega arith);
          is_prefix = (e ∷ es, rw is refl, λ x others h. rw is (let same : e ≡ x = cc in let long : room < length x.lits = rw (← same) over in omega arith));
        }
