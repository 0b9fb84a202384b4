use Rattle.std.proofs.Common.{◌≡◌, ◌≢◌, ℕ, zero, suc, ◌+◌, ◌<◌, ◌≤◌, inl, inr, Bool, true, false, not, nat_lt, nat_le, cond, List, [], ◌∷◌, length, map, get_or, Option, Some, None, Result, refl, sym, ap, ◌∙◌, arith}
use Rattle.std.specs.Prelude.{filter, slice_get, ◌==◌}
use Rattle.std.specs.List.{insert, list_any}
use Rattle.std.specs.List.Sorted.{IsNonDecreasing, IsPartitionedBy}
use Rattle.std.specs.Result.{IsOk, is_ok}
use Rattle.std.proofs.lemmas.Bool.Decides.{nat_tests}
use Rattle.std.proofs.lemmas.List.{length-map}
use Rattle.mal_base.specs.NumberedClause.{NumberedClause, lits_under}
use Rattle.spec_node.specs.Adding.{with_clause, forgetting}
use Rattle.spec_node.specs.Sound.{NumbersRise}
use Rattle.mal_store.specs.Arena.{is_left}
use Rattle.mal_store.specs.Stored.{Among, is_short, short_clauses, short_ids, with_number, with_short}
use Rattle.mal_store.proofs.EntryLemmas.{test_lt, lt_test, test_not}
use Rattle.mal_store.proofs.AmongLemmas.{among-get, among-passed, rise-passed, rise-under, under-none}

yes_le : (a b : ℕ) → a ≤ b → nat_le a b ≡ true
yes_le a b = grind (arith, nat_tests)

not_le : (a b : ℕ) → b < a → nat_le a b ≡ false
not_le a b = grind (arith, nat_tests)

-- what was inserted with room stands there
pub insert_ids : {A B : Type 0} (r : Result A B) (xs ys : List ℕ) → IsOk r → cond (is_ok r) xs ys ≡ xs
insert_ids {A} {B} r xs ys h = rw h refl

-- numbers below one stand in front of the others
pub numbers-part : (id : ℕ) (ns : List ℕ) → IsNonDecreasing ns → IsPartitionedBy (λ (n : ℕ). nat_lt n id) ns
numbers-part id ns h i j d a l t = lt_test (get_or ns i d) id (omega (arith, h i j d a l, test_lt (get_or ns j d) id t))

pub number-at : (id : ℕ) (ns : List ℕ) (place : ℕ) → place ≤ length ns → ((k d : ℕ) → k < place → get_or ns k d < id) → ((k d : ℕ) → place ≤ k → k < length ns → id ≤ get_or ns k d) → with_number id ns ≡ insert ns place id
number-at id [] zero l b a = refl
number-at id [] (suc k) l b a = absurd (omega arith)
number-at id (n ∷ ns) zero l b a =
    let less : nat_le id n ≡ true = yes_le id n (a 0 0 (omega arith) (omega arith)) in
    rw less refl
number-at id (n ∷ ns) (suc k) l b a =
    let more : nat_le id n ≡ false = not_le id n (b 0 0 (omega arith)) in
    rw more (ap (λ (ms : List ℕ). n ∷ ms) (number-at id ns k (omega arith) (λ i d h. b (suc i) d (omega arith)) (λ i d h m. a (suc i) d (omega arith) (omega arith))))

-- the numbers of clauses that rise
least-number : (low : ℕ) (cs : List NumberedClause) (k d : ℕ) → NumbersRise low cs → k < length (map (λ (c : NumberedClause). c.id) cs) → low ≤ get_or (map (λ (c : NumberedClause). c.id) cs) k d
least-number low [] k d r l = absurd (omega arith)
least-number low (c ∷ cs) zero d r l = r.0
least-number low (c ∷ cs) (suc k) d r l = omega (arith, r.0, least-number (c.id + 1) cs k d r.1 (omega arith))

numbers-rise : (low : ℕ) (cs : List NumberedClause) → NumbersRise low cs → IsNonDecreasing (map (λ (c : NumberedClause). c.id) cs)
numbers-rise low [] r i j d a l = absurd (omega arith)
numbers-rise low (c ∷ cs) r zero zero d a l = omega arith
numbers-rise low (c ∷ cs) r (suc i) zero d a l = absurd (omega arith)
numbers-rise low (c ∷ cs) r zero (suc j) d a l = omega (arith, least-number (c.id + 1) cs j d r.1 (omega arith))
numbers-rise low (c ∷ cs) r (suc i) (suc j) d a l = numbers-rise (c.id + 1) cs r.1 i j d (omega arith) (omega arith)

pub short-rise : (cs : List NumberedClause) → NumbersRise 0 cs → IsNonDecreasing (short_ids cs)
short-rise cs r = numbers-rise 0 (short_clauses cs) (rise-passed is_short 0 cs r)

pub short-length : (cs : List NumberedClause) → length (short_ids cs) ≡ length (short_clauses cs)
short-length cs = length-map (short_clauses cs) (λ (c : NumberedClause). c.id)

-- a clause more
in-front : (id low : ℕ) (cs : List NumberedClause) → NumbersRise low cs → id ≤ low → with_number id (short_ids cs) ≡ id ∷ short_ids cs
in-front id low [] r l = refl
in-front id low (c ∷ cs) r l = by_test (is_short c) (in-front id (c.id + 1) cs r.1 (omega (arith, r.0, l)))
  where
    less : nat_le id c.id ≡ true
    less = yes_le id c.id (omega (arith, r.0, l))

    by_test : (b : Bool) → with_number id (short_ids cs) ≡ id ∷ short_ids cs → with_number id (map (λ (d : NumberedClause). d.id) (cond b (c ∷ short_clauses cs) (short_clauses cs))) ≡ id ∷ map (λ (d : NumberedClause). d.id) (cond b (c ∷ short_clauses cs) (short_clauses cs))
    by_test true f = rw less refl
    by_test false f = f

pub short-with : (low : ℕ) (c : NumberedClause) (cs : List NumberedClause) → is_short c ≡ true → NumbersRise low cs → ((d : NumberedClause) → Among d cs → d.id ≢ c.id) → short_ids (with_clause c cs) ≡ with_number c.id (short_ids cs)
short-with low c [] t r h = rw t refl
short-with low c (d ∷ ds) t r h = by_order (nat_lt c.id d.id) refl (short-with (d.id + 1) c ds t r.1 (λ x m. h x (inr m)))
  where
    ids : List NumberedClause → List ℕ
    ids cs = map (λ (x : NumberedClause). x.id) cs

    above : nat_lt c.id d.id ≡ false → nat_le c.id d.id ≡ false
    above e = not_le c.id d.id (by_less (nat_lt d.id c.id) refl)
      where
        by_less : (b : Bool) → nat_lt d.id c.id ≡ b → d.id < c.id
        by_less true u = test_lt d.id c.id u
        by_less false u = absurd (h d (inl refl) (omega (arith, test_not c.id d.id e, test_not d.id c.id u)))

    by_short : (b : Bool) → nat_le c.id d.id ≡ false → short_ids (with_clause c ds) ≡ with_number c.id (short_ids ds) → ids (cond b (d ∷ short_clauses (with_clause c ds)) (short_clauses (with_clause c ds))) ≡ with_number c.id (ids (cond b (d ∷ short_clauses ds) (short_clauses ds)))
    by_short true e f = rw e (ap (λ (ns : List ℕ). d.id ∷ ns) f)
    by_short false e f = f

    by_order : (b : Bool) → nat_lt c.id d.id ≡ b → short_ids (with_clause c ds) ≡ with_number c.id (short_ids ds) → short_ids (cond b (c ∷ (d ∷ ds)) (d ∷ with_clause c ds)) ≡ with_number c.id (short_ids (d ∷ ds))
    by_order true e f = rw t (sym (in-front c.id d.id (d ∷ ds) (omega arith, r.1) (omega (arith, test_lt c.id d.id e))))
    by_order false e f = by_short (is_short d) (above e) f

pub long-without : (c : NumberedClause) (cs : List NumberedClause) → is_short c ≡ false → short_ids (with_clause c cs) ≡ short_ids cs
long-without c [] t = rw t refl
long-without c (d ∷ ds) t = by_order (nat_lt c.id d.id) (long-without c ds t)
  where
    ids : List NumberedClause → List ℕ
    ids cs = map (λ (x : NumberedClause). x.id) cs

    by_short : (b : Bool) → short_ids (with_clause c ds) ≡ short_ids ds → ids (cond b (d ∷ short_clauses (with_clause c ds)) (short_clauses (with_clause c ds))) ≡ ids (cond b (d ∷ short_clauses ds) (short_clauses ds))
    by_short true f = ap (λ (ns : List ℕ). d.id ∷ ns) f
    by_short false f = f

    by_order : (b : Bool) → short_ids (with_clause c ds) ≡ short_ids ds → short_ids (cond b (c ∷ (d ∷ ds)) (d ∷ with_clause c ds)) ≡ short_ids (d ∷ ds)
    by_order true f = rw t refl
    by_order false f = by_short (is_short d) f

pub short-added : (c : NumberedClause) (cs : List NumberedClause) (short : List ℕ) → NumbersRise 0 cs → lits_under c.id cs ≡ None → short ≡ short_ids cs → with_short c short ≡ short_ids (with_clause c cs)
short-added c cs short r n e = by_test (is_short c) refl
  where
    by_test : (b : Bool) → is_short c ≡ b → cond b (with_number c.id short) short ≡ short_ids (with_clause c cs)
    by_test true t = ap (with_number c.id) e ∙ sym (short-with 0 c cs t r (λ d h. under-none c.id cs d n h))
    by_test false t = e ∙ sym (long-without c cs t)

-- fewer clauses
abbrev pub is_other : List ℕ → ℕ → Bool
is_other ids n = not (list_any (λ (i : ℕ). i == n) ids)

pub short-fewer : (ids : List ℕ) (cs : List NumberedClause) → short_ids (forgetting ids cs) ≡ filter (is_other ids) (short_ids cs)
short-fewer ids [] = refl
short-fewer ids (c ∷ cs) = by_tests (is_left ids c) (is_short c) refl refl (short-fewer ids cs)
  where
    numbers : List NumberedClause → List ℕ
    numbers cs = map (λ (x : NumberedClause). x.id) cs

    by_tests : (a b : Bool) → is_left ids c ≡ a → is_short c ≡ b → short_ids (forgetting ids cs) ≡ filter (is_other ids) (short_ids cs) → short_ids (cond a (c ∷ forgetting ids cs) (forgetting ids cs)) ≡ filter (is_other ids) (numbers (cond b (c ∷ short_clauses cs) (short_clauses cs)))
    by_tests true true t u f = rw (t, u) (ap (λ (ns : List ℕ). c.id ∷ ns) f)
    by_tests true false t u f = rw u f
    by_tests false true t u f = rw t f
    by_tests false false t u f = f

-- the short clause at a place is what is held under its number
pub record IsNext (cs : List NumberedClause) (i id : ℕ) : Type 0 where
  pub lits : List ℕ
  pub there : slice_get (short_clauses cs) i ≡ Some (record { id = id; lits = lits })
  pub held : lits_under id cs ≡ Some lits

record IsAt (cs : List NumberedClause) (i id : ℕ) : Type 0 where
  lits : List ℕ
  there : slice_get cs i ≡ Some (record { id = id; lits = lits })

get-at : (cs : List NumberedClause) (i id : ℕ) → i < length (map (λ (c : NumberedClause). c.id) cs) → id ≡ get_or (map (λ (c : NumberedClause). c.id) cs) i id → IsAt cs i id
get-at [] i id l e = absurd (omega arith)
get-at (c ∷ cs) zero id l e = record { lits = c.lits; there = rw e refl }
get-at (c ∷ cs) (suc i) id l e = let a = get-at cs i id (omega arith) e in record { lits = a.lits; there = a.there }

pub short-next : (cs : List NumberedClause) (i id : ℕ) → NumbersRise 0 cs → i < length (short_ids cs) → id ≡ get_or (short_ids cs) i id → IsNext cs i id
short-next cs i id r l e =
    let a = get-at (short_clauses cs) i id l e in
    let c : NumberedClause = record { id = id; lits = a.lits } in
    record { lits = a.lits; there = a.there; held = rise-under 0 cs c r (among-passed is_short c cs (among-get (short_clauses cs) i c a.there)).0 }

pub short-at : (cs : List NumberedClause) (short : List ℕ) (i id : ℕ) → NumbersRise 0 cs → short ≡ short_ids cs → i < length (short_clauses cs) → id ≡ get_or short i id → IsNext cs i id
short-at cs short i id r e l is = short-next cs i id r (omega (arith, l, short-length cs)) (is ∙ ap (λ (ns : List ℕ). get_or ns i id) e)

some_lits : (x y : List ℕ) → Some x ≡ Some y → x ≡ y
some_lits x y e = cc

none_lits : (x : List ℕ) → ◌≡◌ {A = Option (List ℕ)} None (Some x) → ⊥
none_lits x e = cc

pub next-is : (cs : List NumberedClause) (i id : ℕ) (lits : List ℕ) → IsNext cs i id → lits_under id cs ≡ Some lits → slice_get (short_clauses cs) i ≡ Some (record { id = id; lits = lits })
next-is cs i id lits n e = n.there ∙ ap (λ (ls : List ℕ). let c : NumberedClause = record { id = id; lits = ls } in Some c) (some_lits n.lits lits (sym n.held ∙ e))

pub next-none : (cs : List NumberedClause) (i id : ℕ) → IsNext cs i id → lits_under id cs ≡ None → ⊥
next-none cs i id n e = none_lits n.lits (sym e ∙ n.held)
