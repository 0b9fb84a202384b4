-- The marks of a guide are those of the derived clauses that are held.
use Rattle.std.proofs.Common.{◌≡◌, ℕ, zero, suc, ◌+◌, ◌^◌, ◌<◌, ◌≤◌, Bool, true, false, cond, not, List, [], ◌∷◌, length, map, fold, refl, sym, ap, ◌∙◌, arith}
use Rattle.std.specs.Prelude.{All, ◌==◌, nat_lt, nat_le, filter}
use Rattle.std.specs.List.{list_any}
use Rattle.std.proofs.lemmas.List.Elements.{All-head, All-tail}
use Rattle.std.proofs.lemmas.Bool.{leb-true, leb-false, ltb-true, le-leb}
use Rattle.mal_base.specs.NumberedClause.{NumberedClause}
use Rattle.spec_node.specs.State.{Node}
use Rattle.spec_node.specs.Load.{counted, is_derived}
use Rattle.spec_node.specs.Adding.{with_clause, forgetting}
use Rattle.spec_node.specs.Import.{with_clauses}
use Rattle.spec_learn.specs.Insertion.{put_by}
use Rattle.spec_learn.specs.Learning.{derived_id}
use Rattle.spec_guided.specs.State.{Mark, with_mark, unmarked}
use Rattle.spec_guided.specs.Load.{imported_mark}

-- the numbers of marks, and of the derived ones among clauses
abbrev pub mark_ids : List Mark → List ℕ
mark_ids ms = map (λ m. m.id) ms

abbrev pub clause_ids : List NumberedClause → List ℕ
clause_ids cs = map (λ c. c.id) (filter is_derived cs)

ids-mark : (m : Mark) (ms : List Mark) → mark_ids (with_mark m ms) ≡ put_by nat_lt m.id (mark_ids ms)
ids-mark m [] = refl
ids-mark m (x ∷ xs) = by_less (ids-mark m xs) (nat_lt m.id x.id)
  where
    by_less : mark_ids (with_mark m xs) ≡ put_by nat_lt m.id (mark_ids xs) → (b : Bool) → mark_ids (cond b (m ∷ (x ∷ xs)) (x ∷ with_mark m xs)) ≡ cond b (m.id ∷ (x.id ∷ mark_ids xs)) (x.id ∷ put_by nat_lt m.id (mark_ids xs))
    by_less g true = refl
    by_less g false = ap (λ (ids : List ℕ). x.id ∷ ids) g

ids-clause : (c : NumberedClause) (ds : List NumberedClause) → is_derived c ≡ true → clause_ids (with_clause c ds) ≡ put_by nat_lt c.id (clause_ids ds)
ids-clause c [] h = rw h refl
ids-clause c (d ∷ ds) h = by_less (ids-clause c ds h) (nat_lt c.id d.id) refl (is_derived d) refl
  where
    by_less : clause_ids (with_clause c ds) ≡ put_by nat_lt c.id (clause_ids ds) → (b : Bool) → nat_lt c.id d.id ≡ b → (x : Bool) → is_derived d ≡ x → clause_ids (cond b (c ∷ (d ∷ ds)) (d ∷ with_clause c ds)) ≡ put_by nat_lt c.id (map (λ (e : NumberedClause). e.id) (cond x (d ∷ filter is_derived ds) (filter is_derived ds)))
    by_less g true q true k = rw h (rw k (rw q refl))
    by_less g true q false k = let low : d.id < 2 ^ 32 = leb-false (2 ^ 32) d.id k in let high : 2 ^ 32 ≤ c.id = leb-true (2 ^ 32) c.id h in let less : c.id < d.id = ltb-true c.id d.id q in absurd (omega arith)
    by_less g false q true k = rw k (rw q (ap (λ (ids : List ℕ). d.id ∷ ids) g))
    by_less g false q false k = rw k g

-- one more of each
pub marks-with : (m : Mark) (ms : List Mark) (c : NumberedClause) (cs : List NumberedClause) → m.id ≡ c.id → is_derived c ≡ true → mark_ids ms ≡ clause_ids cs → mark_ids (with_mark m ms) ≡ clause_ids (with_clause c cs)
marks-with m ms c cs same d h = ids-mark m ms ∙ (ap (λ (i : ℕ). put_by nat_lt i (mark_ids ms)) same ∙ (ap (put_by nat_lt c.id) h ∙ sym (ids-clause c cs d)))

pub own-derived : (n : Node) → nat_le (2 ^ 32) (derived_id n) ≡ true
own-derived n = le-leb (2 ^ 32) (derived_id n) (omega arith)

-- several more
pub marks-with_all : (gain : ℕ) (new : List NumberedClause) (ms : List Mark) (cs : List NumberedClause) → All (λ c. is_derived c ≡ true) new → mark_ids ms ≡ clause_ids cs → mark_ids (fold (λ xs c. with_mark (imported_mark gain c) xs) ms new) ≡ clause_ids (with_clauses new cs)
marks-with_all gain [] ms cs d h = h
marks-with_all gain (c ∷ new) ms cs d h = marks-with_all gain new (with_mark (imported_mark gain c) ms) (with_clause c cs) (All-tail (λ x. is_derived x ≡ true) c new d) (marks-with (imported_mark gain c) ms c cs refl (All-head (λ x. is_derived x ≡ true) c new d) h)

-- fewer of each
ids-unmarked : (ids : List ℕ) (ms : List Mark) → mark_ids (unmarked ids ms) ≡ filter (λ i. not (list_any (λ j. j == i) ids)) (mark_ids ms)
ids-unmarked ids [] = refl
ids-unmarked ids (m ∷ ms) = by_test (ids-unmarked ids ms) (not (list_any (λ j. j == m.id) ids))
  where
    by_test : mark_ids (unmarked ids ms) ≡ filter (λ i. not (list_any (λ j. j == i) ids)) (mark_ids ms) → (b : Bool) → mark_ids (cond b (m ∷ unmarked ids ms) (unmarked ids ms)) ≡ cond b (m.id ∷ filter (λ i. not (list_any (λ j. j == i) ids)) (mark_ids ms)) (filter (λ i. not (list_any (λ j. j == i) ids)) (mark_ids ms))
    by_test g true = ap (λ (is : List ℕ). m.id ∷ is) g
    by_test g false = g

ids-forgetting : (ids : List ℕ) (cs : List NumberedClause) → clause_ids (forgetting ids cs) ≡ filter (λ i. not (list_any (λ j. j == i) ids)) (clause_ids cs)
ids-forgetting ids [] = refl
ids-forgetting ids (c ∷ cs) = by_test (ids-forgetting ids cs) (not (list_any (λ j. j == c.id) ids)) refl (is_derived c) refl
  where
    stays : ℕ → Bool
    stays i = not (list_any (λ j. j == i) ids)

    by_test : clause_ids (forgetting ids cs) ≡ filter stays (clause_ids cs) → (b : Bool) → stays c.id ≡ b → (x : Bool) → is_derived c ≡ x → clause_ids (cond b (c ∷ forgetting ids cs) (forgetting ids cs)) ≡ filter stays (map (λ (e : NumberedClause). e.id) (cond x (c ∷ filter is_derived cs) (filter is_derived cs)))
    by_test g true q true k = rw k (rw q (ap (λ (is : List ℕ). c.id ∷ is) g))
    by_test g true q false k = rw k g
    by_test g false q true k = rw q g
    by_test g false q false k = g

pub marks-without : (ids : List ℕ) (ms : List Mark) (cs : List NumberedClause) → mark_ids ms ≡ clause_ids cs → mark_ids (unmarked ids ms) ≡ clause_ids (forgetting ids cs)
marks-without ids ms cs h = ids-unmarked ids ms ∙ (ap (filter (λ i. not (list_any (λ j. j == i) ids))) h ∙ sym (ids-forgetting ids cs))

-- a change of marks that keeps their numbers
pub marks-changed : (f : Mark → Mark) → ((m : Mark) → (f m).id ≡ m.id) → (ms : List Mark) → mark_ids (map f ms) ≡ mark_ids ms
marks-changed f k [] = refl
marks-changed f k (m ∷ ms) = ap (λ (i : ℕ). i ∷ mark_ids (map f ms)) (k m) ∙ ap (λ (ids : List ℕ). m.id ∷ ids) (marks-changed f k ms)

pub length-counted : (first n : ℕ) → length (counted first n) ≡ n
length-counted first zero = refl
length-counted first (suc n) = ap suc (length-counted (first + 1) n)
