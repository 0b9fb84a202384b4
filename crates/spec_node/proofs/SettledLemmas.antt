use Rattle.std.proofs.Common.{◌≡◌, ℕ, ◌+◌, ◌-◌, ◌/◌, ◌%◌, ◌<◌, ◌≤◌, Bool, true, false, cond, not, ◌||◌, List, [], ◌∷◌, ◌++◌, length, take, get_or, zero, suc, Some, None, refl, sym, ap, ◌∙◌, subst, add-one, arith, inl, inr, ◌⊎◌}
use Rattle.std.specs.Prelude.{All, filter, find, nat_lt, ◌==◌}
use Rattle.std.specs.List.{list_all, list_any}
use Rattle.std.specs.Option.{option_map_or}
use Rattle.std.proofs.lemmas.List.{take_more, take-take, length-take-le}
use Rattle.std.proofs.lemmas.List.Elements.{All-nil, All-cons, All-head, All-tail, All-weaker}
use Rattle.std.proofs.lemmas.List.Sums.{sum_by-cons}
use Rattle.std.proofs.lemmas.List.Folds.{list_any-append}
use Rattle.std.proofs.lemmas.Bool.{and_parts, and_from, or_left, or_right, ltb-true, le-leb, eqb-true, eqb-false, eq-eqb, ne_eqb, lt-ltb, cases_lt}
use Rattle.mal_base.specs.Literals.{var_of, negated}
use Rattle.mal_base.specs.Clauses.{rises, is_below}
use Rattle.mal_base.specs.declared.trail_entry.TrailEntry.{TrailEntry}
use Rattle.mal_base.specs.NumberedClause.{NumberedClause}
use Rattle.spec_node.specs.Value.{is_true, is_false, open_count}
use Rattle.spec_node.specs.Batch.{is_in_batch, before_last}
use Rattle.spec_node.specs.Sound.{left_is_true}

-- a literal's negation has its variable
pub var_of-negated : (l : ℕ) → var_of (negated l) ≡ var_of l
var_of-negated l = by_sign (l % 2 == 0) refl
  where
    by_sign : (b : Bool) → (l % 2 == 0) ≡ b → var_of (cond b (l + 1) (l - 1)) ≡ var_of l
    by_sign true e = let u = eqb-true (l % 2) 0 e in omega arith
    by_sign false e = let u = eqb-false (l % 2) 0 e in omega arith

-- the literals after one have greater variables
pub rises-above : (l : ℕ) (ls : List ℕ) → rises (l ∷ ls) ≡ true → All (λ m. var_of l < var_of m) ls
rises-above l [] h = All-nil (λ m. var_of l < var_of m)
rises-above l (m ∷ ms) h =
    let parts = and_parts (nat_lt (l / 2) (m / 2)) (rises (m ∷ ms)) h in
    let first : var_of l < var_of m = ltb-true (l / 2) (m / 2) parts.0 in
    All-cons (λ x. var_of l < var_of x) m ms first (All-weaker (λ x. var_of m < var_of x) (λ x. var_of l < var_of x) (λ x k. let g : var_of m < var_of x = k in omega arith) ms (rises-above m ms parts.1))

pub rises-rest : (l : ℕ) (ls : List ℕ) → rises (l ∷ ls) ≡ true → rises ls ≡ true
rises-rest l ls h = (and_parts (is_below l ls) (rises ls) h).1

-- one literal that is not false counts one
abbrev pub count_of : List TrailEntry → ℕ → ℕ
count_of trail l = cond (not (is_false trail l)) 1 0

pub open-cons : (trail : List TrailEntry) (l : ℕ) (ls : List ℕ) → open_count trail (l ∷ ls) ≡ count_of trail l + open_count trail ls
open-cons trail l ls = sum_by-cons (λ (x : ℕ). cond (not (is_false trail x)) 1 0) l ls

pub open-none : (lits : List ℕ) → open_count [] lits ≡ length lits
open-none [] = refl
open-none (l ∷ ls) = let u = open-cons [] l ls in let w = open-none ls in omega arith

-- an entry makes false its negation alone
pub same-false : (trail : List TrailEntry) (e : TrailEntry) (l : ℕ) → (e.lit == negated l) ≡ false → is_false (trail ++ e ∷ []) l ≡ is_false trail l
same-false trail e l h = list_any-append (λ x. x.lit == negated l) trail (e ∷ []) ∙ by_value (is_false trail l) (e.lit == negated l) h
  where
    by_value : (a b : Bool) → b ≡ false → (a || (b || false)) ≡ a
    by_value true b q = refl
    by_value false true q = q
    by_value false false q = refl

open-same : (trail : List TrailEntry) (e : TrailEntry) (ls : List ℕ) → All (λ m. var_of e.lit < var_of m) ls → open_count (trail ++ e ∷ []) ls ≡ open_count trail ls
open-same trail e [] h = refl
open-same trail e (l ∷ ls) h =
    let above : var_of e.lit < var_of l = All-head (λ m. var_of e.lit < var_of m) l ls h in
    let other : (e.lit == negated l) ≡ false = ne_eqb e.lit (negated l) (λ q. let s : var_of e.lit ≡ var_of l = ap var_of q ∙ var_of-negated l in absurd (omega arith)) in
    let one : count_of (trail ++ e ∷ []) l ≡ count_of trail l = ap (λ (b : Bool). cond (not b) 1 0) (same-false trail e l other) in
    let rest : open_count (trail ++ e ∷ []) ls ≡ open_count trail ls = open-same trail e ls (All-tail (λ m. var_of e.lit < var_of m) l ls h) in
    let u = open-cons trail l ls in
    let w = open-cons (trail ++ e ∷ []) l ls in
    omega arith

count-at_most : (trail : List TrailEntry) (l : ℕ) → count_of trail l ≤ 1
count-at_most trail l = by_value (not (is_false trail l))
  where
    by_value : (b : Bool) → cond b 1 0 ≤ 1
    by_value true = omega arith
    by_value false = omega arith

-- one more entry makes at most one literal of a clause false
pub open-falls : (trail : List TrailEntry) (e : TrailEntry) (lits : List ℕ) → rises lits ≡ true → open_count trail lits ≤ open_count (trail ++ e ∷ []) lits + 1
open-falls trail e [] h = omega arith
open-falls trail e (l ∷ ls) h = by_hit (open-falls trail e ls (rises-rest l ls h)) (e.lit == negated l) refl
  where
    by_hit : open_count trail ls ≤ open_count (trail ++ e ∷ []) ls + 1 → (b : Bool) → (e.lit == negated l) ≡ b → open_count trail (l ∷ ls) ≤ open_count (trail ++ e ∷ []) (l ∷ ls) + 1
    by_hit k true q =
        let var : var_of e.lit ≡ var_of l = ap var_of (eqb-true e.lit (negated l) q) ∙ var_of-negated l in
        let rest : open_count (trail ++ e ∷ []) ls ≡ open_count trail ls = open-same trail e ls (All-weaker (λ x. var_of l < var_of x) (λ x. var_of e.lit < var_of x) (λ x g. let g2 : var_of l < var_of x = g in omega arith) ls (rises-above l ls h)) in
        let u = open-cons trail l ls in
        let w = open-cons (trail ++ e ∷ []) l ls in
        let one = count-at_most trail l in
        omega arith
    by_hit k false q =
        let one : count_of (trail ++ e ∷ []) l ≡ count_of trail l = ap (λ (b : Bool). cond (not b) 1 0) (same-false trail e l q) in
        let u = open-cons trail l ls in
        let w = open-cons (trail ++ e ∷ []) l ls in
        omega arith

-- what a test of the filtered says of each
pub All-unfiltered : {X : Type 0} (test p : X → Bool) (xs : List X) → list_all p (filter test xs) ≡ true → All (λ x. test x ≡ true → p x ≡ true) xs
All-unfiltered test p [] h = All-nil (λ x. test x ≡ true → p x ≡ true)
All-unfiltered {X} test p (x ∷ xs) h = by_test (All-unfiltered test p xs) (test x) refl h
  where
    by_test : (list_all p (filter test xs) ≡ true → All (λ (y : X). test y ≡ true → p y ≡ true) xs) → (b : Bool) → test x ≡ b → list_all p (cond b (x ∷ filter test xs) (filter test xs)) ≡ true → All (λ (y : X). test y ≡ true → p y ≡ true) (x ∷ xs)
    by_test f true q k = let parts = and_parts (p x) (list_all p (filter test xs)) k in All-cons (λ (y : X). test y ≡ true → p y ≡ true) x xs (λ t. parts.0) (f parts.1)
    by_test f false q k = All-cons (λ (y : X). test y ≡ true → p y ≡ true) x xs (λ t. absurd (cc)) (f k)

-- an element that is found passes
pub any-from_find : (test p : ℕ → Bool) (xs : List ℕ) → option_map_or p (find test xs) false ≡ true → list_any p xs ≡ true
any-from_find test p [] h = h
any-from_find test p (x ∷ xs) h = by_test (any-from_find test p xs) (test x) h
  where
    by_test : (option_map_or p (find test xs) false ≡ true → list_any p xs ≡ true) → (b : Bool) → option_map_or p (cond b (Some x) (find test xs)) false ≡ true → (p x || list_any p xs) ≡ true
    by_test f true k = or_left _ _ k
    by_test f false k = or_right _ _ (f k)

pub true-from_left : (prefix trail : List TrailEntry) (c : NumberedClause) → left_is_true prefix trail c ≡ true → list_any (is_true trail) c.lits ≡ true
true-from_left prefix trail c h = any-from_find (λ l. not (is_false prefix l)) (is_true trail) c.lits h

pub no-entry : TrailEntry
no-entry = record { lit = 0; reason = None; level = 0 }

-- a clause whose last open literals but one fell with the last entry is in the batch
falls-in_batch : (prefix longer : List TrailEntry) (c : NumberedClause) → 0 < length longer → before_last longer ≡ prefix → open_count longer c.lits ≡ 1 → 1 < open_count prefix c.lits → is_in_batch longer c ≡ true
falls-in_batch prefix longer c some last one more =
    let first : (length longer == 0) ≡ false = ne_eqb (length longer) 0 (λ q. absurd (omega arith)) in
    rw first (and_from _ _ (eq-eqb (open_count longer c.lits) 1 one) (subst (λ (t : List TrailEntry). nat_lt 1 (open_count t c.lits) ≡ true) (sym last) (lt-ltb 1 (open_count prefix c.lits) more)))

-- where its batches are settled, a clause with at most one literal open under some prefix has a true literal
pub settled-true : (trail : List TrailEntry) (c : NumberedClause) → rises c.lits ≡ true → (below : ℕ) → below ≤ length trail + 1 → ((q : ℕ) → q < below → is_in_batch (take q trail) c ≡ true → left_is_true (take q trail) trail c ≡ true) → (q : ℕ) → q < below → open_count (take q trail) c.lits ≤ 1 → list_any (is_true trail) c.lits ≡ true
settled-true trail c r below b h zero k o = true-from_left [] trail c (h zero k (le-leb (length c.lits) 1 (let u = open-none c.lits in omega arith)))
settled-true trail c r below b h (suc q) k o = by_before (settled-true trail c r below b h q (omega arith)) (cases_lt 1 (open_count (take q trail) c.lits))
  where
    by_before : (open_count (take q trail) c.lits ≤ 1 → list_any (is_true trail) c.lits ≡ true) → (1 < open_count (take q trail) c.lits) ⊎ (open_count (take q trail) c.lits ≤ 1) → list_any (is_true trail) c.lits ≡ true
    by_before f (inr low) = f low
    by_before f (inl more) =
        let longer : take (suc q) trail ≡ take q trail ++ get_or trail q no-entry ∷ [] = ap (λ (m : ℕ). take m trail) (sym (add-one q)) ∙ take_more trail q no-entry (omega arith) in
        let falls : open_count (take q trail) c.lits ≤ open_count (take q trail ++ get_or trail q no-entry ∷ []) c.lits + 1 = open-falls (take q trail) (get_or trail q no-entry) c.lits r in
        let falls_here : open_count (take q trail) c.lits ≤ open_count (take (suc q) trail) c.lits + 1 = subst (λ (t : List TrailEntry). open_count (take q trail) c.lits ≤ open_count t c.lits + 1) (sym longer) falls in
        let len : length (take (suc q) trail) ≡ suc q = length-take-le (suc q) trail (omega arith) in
        let last : before_last (take (suc q) trail) ≡ take q trail = ap (λ (m : ℕ). take m (take (suc q) trail)) (let s : length (take (suc q) trail) - 1 ≡ q = omega arith in s) ∙ take-take q (suc q) trail (omega arith) in
        true-from_left (take (suc q) trail) trail c (h (suc q) k (falls-in_batch (take q trail) (take (suc q) trail) c (omega arith) last (omega arith) more))

-- a clause whose literals all have values has a true literal or none open
pub valued-cases : (trail : List TrailEntry) (lits : List ℕ) → All (λ l. (is_true trail l ≡ true) ⊎ (is_false trail l ≡ true)) lits → (list_any (is_true trail) lits ≡ true) ⊎ (open_count trail lits ≡ 0)
valued-cases trail [] h = inr refl
valued-cases trail (l ∷ ls) h = by_first (valued-cases trail ls (All-tail (λ x. (is_true trail x ≡ true) ⊎ (is_false trail x ≡ true)) l ls h)) (All-head (λ x. (is_true trail x ≡ true) ⊎ (is_false trail x ≡ true)) l ls h)
  where
    by_first : (list_any (is_true trail) ls ≡ true) ⊎ (open_count trail ls ≡ 0) → (is_true trail l ≡ true) ⊎ (is_false trail l ≡ true) → (list_any (is_true trail) (l ∷ ls) ≡ true) ⊎ (open_count trail (l ∷ ls) ≡ 0)
    by_first r (inl t) = inl (or_left _ _ t)
    by_first (inl t) (inr f) = inl (or_right _ _ t)
    by_first (inr z) (inr f) = inr (let u = open-cons trail l ls in let one : count_of trail l ≡ 0 = ap (λ (b : Bool). cond (not b) 1 0) f in omega arith)
