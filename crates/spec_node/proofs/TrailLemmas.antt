use Rattle.std.proofs.Common.{◌≡◌, ℕ, ◌+◌, ◌-◌, ◌%◌, ◌≤◌, Bool, true, false, List, [], ◌∷◌, ◌++◌, length, take, Some, None, Option, refl, sym, ap, ◌∙◌, subst, append_assoc, append-nil, arith, inl, inr, ◌⊎◌, cond}
use Rattle.std.specs.Prelude.{◌==◌}
use Rattle.std.specs.List.{list_all}
use Rattle.std.specs.Option.{option_map_or}
use Rattle.std.proofs.lemmas.List.Folds.{list_any-append}
use Rattle.std.proofs.lemmas.Bool.{or_left, or_right, or_cases, and_parts, and_from, eqb-true, eqb-false, eq-eqb, both_ways, false_from_ne_true}
use Rattle.std.proofs.lemmas.List.{take-append-le}
use Rattle.mal_base.specs.Literals.{var_of, negated}
use Rattle.mal_base.specs.declared.trail_entry.TrailEntry.{TrailEntry}
use Rattle.mal_base.specs.NumberedClause.{NumberedClause}
use Rattle.spec_node.specs.Value.{is_true, is_false, has_value, left_literal}
use Rattle.spec_node.specs.Batch.{batch}
use Rattle.spec_node.specs.Sound.{EachAfter, IsPlaced, left_is_true, AreSettled, IsLiteralOf}

-- a property of each entry, when one is pushed, of a front, at an entry, and for a weaker property
pub each-push : (P : List TrailEntry → TrailEntry → Type 0) (es before : List TrailEntry) (e : TrailEntry) → EachAfter P before es → P (before ++ es) e → EachAfter P before (es ++ e ∷ [])
each-push P [] before e h p = (subst (λ (t : List TrailEntry). P t e) (append-nil before) p, tt)
each-push P (x ∷ es) before e h p = (h.0, each-push P es (before ++ x ∷ []) e h.1 (rw append_assoc p))

pub each-front : (P : List TrailEntry → TrailEntry → Type 0) (xs ys before : List TrailEntry) → EachAfter P before (xs ++ ys) → EachAfter P before xs
each-front P [] ys before h = tt
each-front P (x ∷ xs) ys before h = (h.0, each-front P xs ys (before ++ x ∷ []) h.1)

pub each-at : (P : List TrailEntry → TrailEntry → Type 0) (xs : List TrailEntry) (e : TrailEntry) (ys before : List TrailEntry) → EachAfter P before (xs ++ e ∷ ys) → P (before ++ xs) e
each-at P [] e ys before h = rw append-nil h.0
each-at P (x ∷ xs) e ys before h = rw append_assoc at (each-at P xs e ys (before ++ x ∷ []) h.1)

pub each-weaker : (P Q : List TrailEntry → TrailEntry → Type 0) → ((b : List TrailEntry) (e : TrailEntry) → P b e → Q b e) → (es before : List TrailEntry) → EachAfter P before es → EachAfter Q before es
each-weaker P Q f [] before h = tt
each-weaker P Q f (e ∷ es) before h = (f before e h.0, each-weaker P Q f es (before ++ e ∷ []) h.1)

-- what is true or has a value stays so on a longer trail
pub is_true-more : (trail rest : List TrailEntry) (l : ℕ) → is_true trail l ≡ true → is_true (trail ++ rest) l ≡ true
is_true-more trail rest l h = list_any-append (λ e. e.lit == l) trail rest ∙ or_left _ _ h

pub left_is_true-more : (prefix trail rest : List TrailEntry) (c : NumberedClause) → left_is_true prefix trail c ≡ true → left_is_true prefix (trail ++ rest) c ≡ true
left_is_true-more prefix trail rest c h = by_left (left_literal prefix c.lits) h
  where
    by_left : (o : Option ℕ) → option_map_or (is_true trail) o false ≡ true → option_map_or (is_true (trail ++ rest)) o false ≡ true
    by_left None k = k
    by_left (Some l) k = is_true-more trail rest l k

pub all_left-more : (prefix trail rest : List TrailEntry) (cs : List NumberedClause) → list_all (left_is_true prefix trail) cs ≡ true → list_all (left_is_true prefix (trail ++ rest)) cs ≡ true
all_left-more prefix trail rest [] h = refl
all_left-more prefix trail rest (c ∷ cs) h =
    let parts = and_parts (left_is_true prefix trail c) (list_all (left_is_true prefix trail) cs) h in
    and_from _ _ (left_is_true-more prefix trail rest c parts.0) (all_left-more prefix trail rest cs parts.1)

-- batches up to the trail's end that are settled stay so on a longer trail
pub settled-more : (below : ℕ) (trail rest : List TrailEntry) (clauses : List NumberedClause) → below ≤ length trail + 1 → AreSettled below trail clauses → AreSettled below (trail ++ rest) clauses
settled-more below trail rest clauses b h q k =
    let same : take q (trail ++ rest) ≡ take q trail = take-append-le q trail rest (omega arith) in
    subst (λ (p : List TrailEntry). list_all (left_is_true p (trail ++ rest)) (batch p clauses) ≡ true) (sym same) (all_left-more (take q trail) trail rest (batch (take q trail) clauses) (h q k))

-- a true literal's variable has a value
pub value-from_true : (trail : List TrailEntry) (l v : ℕ) → v ≡ var_of l → is_true trail l ≡ true → has_value trail v ≡ true
value-from_true [] l v q h = h
value-from_true (e ∷ es) l v q h = by_place (value-from_true es l v q) (or_cases (e.lit == l) (is_true es l) h)
  where
    by_place : (is_true es l ≡ true → has_value es v ≡ true) → ((e.lit == l) ≡ true) ⊎ (is_true es l ≡ true) → has_value (e ∷ es) v ≡ true
    by_place f (inl k) = or_left _ _ (eq-eqb v (var_of e.lit) (q ∙ ap var_of (sym (eqb-true e.lit l k))))
    by_place f (inr k) = or_right _ _ (f k)

-- two codes of one variable are one literal or negations
pub same_or_negated : (l m : ℕ) → var_of l ≡ var_of m → (l ≡ m) ⊎ (l ≡ negated m)
same_or_negated l m q = by_sign (l % 2 == 0) (m % 2 == 0) refl refl
  where
    by_sign : (a b : Bool) → (l % 2 == 0) ≡ a → (m % 2 == 0) ≡ b → (l ≡ m) ⊎ (l ≡ cond b (m + 1) (m - 1))
    by_sign true true e f = inl (let u = eqb-true (l % 2) 0 e in let w = eqb-true (m % 2) 0 f in omega arith)
    by_sign true false e f = inr (let u = eqb-true (l % 2) 0 e in let w = eqb-false (m % 2) 0 f in omega arith)
    by_sign false true e f = inr (let u = eqb-false (l % 2) 0 e in let w = eqb-true (m % 2) 0 f in omega arith)
    by_sign false false e f = inl (let u = eqb-false (l % 2) 0 e in let w = eqb-false (m % 2) 0 f in omega arith)

-- a variable with a value has a true literal: each of its literals is true or false
pub true_or_false : (trail : List TrailEntry) (l v : ℕ) → v ≡ var_of l → has_value trail v ≡ true → (is_true trail l ≡ true) ⊎ (is_false trail l ≡ true)
true_or_false [] l v q h = inl h
true_or_false (e ∷ es) l v q h = by_place (true_or_false es l v q) (or_cases (v == var_of e.lit) (has_value es v) h)
  where
    by_same : (e.lit ≡ l) ⊎ (e.lit ≡ negated l) → (is_true (e ∷ es) l ≡ true) ⊎ (is_false (e ∷ es) l ≡ true)
    by_same (inl k) = inl (or_left _ _ (eq-eqb e.lit l k))
    by_same (inr k) = inr (or_left _ _ (eq-eqb e.lit (negated l) k))

    by_rest : (is_true es l ≡ true) ⊎ (is_false es l ≡ true) → (is_true (e ∷ es) l ≡ true) ⊎ (is_false (e ∷ es) l ≡ true)
    by_rest (inl k) = inl (or_right _ _ k)
    by_rest (inr k) = inr (or_right _ _ k)

    by_place : (has_value es v ≡ true → (is_true es l ≡ true) ⊎ (is_false es l ≡ true)) → ((v == var_of e.lit) ≡ true) ⊎ (has_value es v ≡ true) → (is_true (e ∷ es) l ≡ true) ⊎ (is_false (e ∷ es) l ≡ true)
    by_place f (inl k) = by_same (same_or_negated e.lit l (sym (eqb-true v (var_of e.lit) k) ∙ q))
    by_place f (inr k) = by_rest (f k)

-- a literal neither true nor false is of a free variable
pub free_from_open : (trail : List TrailEntry) (l : ℕ) → is_true trail l ≡ false → is_false trail l ≡ false → has_value trail (var_of l) ≡ false
free_from_open trail l t f = false_from_ne_true (has_value trail (var_of l)) (λ h. by_value (true_or_false trail l (var_of l) refl h))
  where
    by_value : (is_true trail l ≡ true) ⊎ (is_false trail l ≡ true) → ⊥
    by_value (inl k) = both_ways _ t k
    by_value (inr k) = both_ways _ f k

-- a variable with a value before has none after
pub placed-apart : (variables : ℕ) (es before : List TrailEntry) (v : ℕ) → EachAfter (IsPlaced variables) before es → has_value before v ≡ true → has_value es v ≡ true → ⊥
placed-apart variables [] before v h b k = absurd (cc)
placed-apart variables (e ∷ es) before v h b k = by_place (placed-apart variables es (before ++ e ∷ []) v h.1 (list_any-append (λ x. v == var_of x.lit) before (e ∷ []) ∙ or_left _ _ b)) (or_cases (v == var_of e.lit) (has_value es v) k)
  where
    by_place : (has_value es v ≡ true → ⊥) → ((v == var_of e.lit) ≡ true) ⊎ (has_value es v ≡ true) → ⊥
    by_place f (inl m) = both_ways _ h.0.free (subst (λ (x : ℕ). has_value before x ≡ true) (eqb-true v (var_of e.lit) m) b)
    by_place f (inr m) = f m

-- two true literals of one variable are one
pub true-same : (variables : ℕ) (es before : List TrailEntry) (l m : ℕ) → EachAfter (IsPlaced variables) before es → var_of l ≡ var_of m → is_true es l ≡ true → is_true es m ≡ true → l ≡ m
true-same variables [] before l m h q t u = absurd (cc)
true-same variables (e ∷ es) before l m h q t u = by_place (true-same variables es (before ++ e ∷ []) l m h.1 q) (or_cases (e.lit == l) (is_true es l) t) (or_cases (e.lit == m) (is_true es m) u)
  where
    later : (x : ℕ) → var_of e.lit ≡ var_of x → is_true es x ≡ true → ⊥
    later x r k = placed-apart variables es (before ++ e ∷ []) (var_of e.lit) h.1 (list_any-append (λ y. var_of e.lit == var_of y.lit) before (e ∷ []) ∙ or_right _ _ (or_left _ _ (eq-eqb (var_of e.lit) (var_of e.lit) refl))) (value-from_true es x (var_of e.lit) r k)

    by_place : (is_true es l ≡ true → is_true es m ≡ true → l ≡ m) → ((e.lit == l) ≡ true) ⊎ (is_true es l ≡ true) → ((e.lit == m) ≡ true) ⊎ (is_true es m ≡ true) → l ≡ m
    by_place f (inl a) (inl b) = sym (eqb-true e.lit l a) ∙ eqb-true e.lit m b
    by_place f (inl a) (inr b) = absurd (later m (ap var_of (eqb-true e.lit l a) ∙ q) b)
    by_place f (inr a) (inl b) = absurd (later l (ap var_of (eqb-true e.lit m b) ∙ sym q) a)
    by_place f (inr a) (inr b) = f a b

-- a true literal's variable is in range
pub placed-range : (variables : ℕ) (es before : List TrailEntry) (l : ℕ) → EachAfter (IsPlaced variables) before es → is_true es l ≡ true → IsLiteralOf variables l
placed-range variables [] before l h t = absurd (cc)
placed-range variables (e ∷ es) before l h t = by_place (placed-range variables es (before ++ e ∷ []) l h.1) (or_cases (e.lit == l) (is_true es l) t)
  where
    by_place : (is_true es l ≡ true → IsLiteralOf variables l) → ((e.lit == l) ≡ true) ⊎ (is_true es l ≡ true) → IsLiteralOf variables l
    by_place f (inl a) = let same : e.lit ≡ l = eqb-true e.lit l a in record { low = subst (λ (x : ℕ). 1 ≤ var_of x) same h.0.low; high = subst (λ (x : ℕ). var_of x ≤ variables) same h.0.high }
    by_place f (inr a) = f a
