use Rattle.std.proofs.Common.{◌≡◌, ◌≢◌, ℕ, zero, suc, ◌+◌, ◌<◌, ◌≤◌, ◌⊎◌, inl, inr, Bool, true, false, cond, List, [], ◌∷◌, length, get_or, Option, Some, None, refl, sym, ap, ◌∙◌, arith}
use Rattle.std.specs.Prelude.{filter, nat_eq, nat_lt, find, slice_get}
use Rattle.std.specs.Option.{option_map}
use Rattle.std.proofs.lemmas.Bool.{false≢true, ltb-true, ltb-false}
use Rattle.std.proofs.lemmas.Bool.Decides.{nat_tests}
use Rattle.mal_base.specs.NumberedClause.{NumberedClause, lits_under}
use Rattle.spec_node.specs.Adding.{with_clause}
use Rattle.spec_node.specs.Sound.{NumbersRise}
use Rattle.mal_store.specs.Stored.{Among}

some_held : (c d : NumberedClause) → Some c ≡ Some d → c ≡ d
some_held c d e = cc

some_lits : (c d : List ℕ) → Some c ≡ Some d → c ≡ d
some_lits c d e = cc

none_held : (c : NumberedClause) → ◌≡◌ {A = Option NumberedClause} None (Some c) → ⊥
none_held c e = cc

none_lits : (c : List ℕ) → ◌≡◌ {A = Option (List ℕ)} None (Some c) → ⊥
none_lits c e = cc

pub among-get : (cs : List NumberedClause) (i : ℕ) (c : NumberedClause) → slice_get cs i ≡ Some c → Among c cs
among-get [] i c e = absurd (none_held c e)
among-get (d ∷ ds) zero c e = inl (sym (some_held d c e))
among-get (d ∷ ds) (suc i) c e = inr (among-get ds i c e)

pub among-at : (cs : List NumberedClause) (i : ℕ) (d : NumberedClause) → i < length cs → Among (get_or cs i d) cs
among-at [] i d l = absurd (omega arith)
among-at (x ∷ xs) zero d l = inl refl
among-at (x ∷ xs) (suc i) d l = inr (among-at xs i d (omega arith))

-- the place at which a clause stands
pub record IsPlace (c : NumberedClause) (cs : List NumberedClause) (d : NumberedClause) : Type 0 where
  pub place : ℕ
  pub inside : place < length cs
  pub is : get_or cs place d ≡ c

pub among-place : (c : NumberedClause) (cs : List NumberedClause) (d : NumberedClause) → Among c cs → IsPlace c cs d
among-place c [] d h = absurd h
among-place c (x ∷ xs) d (inl e) = record { place = 0; inside = omega arith; is = sym e }
among-place c (x ∷ xs) d (inr h) =
    let p = among-place c xs d h in
    record { place = suc p.place; inside = omega (arith, p.inside); is = p.is }

pub among-passed : (p : NumberedClause → Bool) (c : NumberedClause) (cs : List NumberedClause) → Among c (filter p cs) → Among c cs × (p c ≡ true)
among-passed p c [] h = absurd h
among-passed p c (d ∷ ds) h = by_test (p d) refl (among-passed p c ds) h
  where
    by_side : (b : Bool) → p d ≡ true → (Among c (filter p ds) → Among c ds × (p c ≡ true)) → (c ≡ d) ⊎ Among c (filter p ds) → Among c (d ∷ ds) × (p c ≡ true)
    by_side b e rest (inl s) = (inl s, rw s e)
    by_side b e rest (inr m) = (inr (rest m).0, (rest m).1)

    by_test : (b : Bool) → p d ≡ b → (Among c (filter p ds) → Among c ds × (p c ≡ true)) → Among c (cond b (d ∷ filter p ds) (filter p ds)) → Among c (d ∷ ds) × (p c ≡ true)
    by_test true e rest m = by_side true e rest m
    by_test false e rest m = (inr (rest m).0, (rest m).1)

pub among-passes : (p : NumberedClause → Bool) (c : NumberedClause) (cs : List NumberedClause) → Among c cs → p c ≡ true → Among c (filter p cs)
among-passes p c [] h t = absurd h
among-passes p c (d ∷ ds) h t = by_test (p d) refl (λ m. among-passes p c ds m t) h
  where
    by_test : (b : Bool) → p d ≡ b → (Among c ds → Among c (filter p ds)) → (c ≡ d) ⊎ Among c ds → Among c (cond b (d ∷ filter p ds) (filter p ds))
    by_test true e rest (inl s) = inl s
    by_test true e rest (inr m) = inr (rest m)
    by_test false e rest (inl s) = absurd (false≢true (sym e ∙ rw (← s) t))
    by_test false e rest (inr m) = rest m

pub among-with : (c d : NumberedClause) (cs : List NumberedClause) → Among c (with_clause d cs) → (c ≡ d) ⊎ Among c cs
among-with c d [] h = h
among-with c d (x ∷ xs) h = by_order (nat_lt d.id x.id) (among-with c d xs) h
  where
    by_rest : (c ≡ d) ⊎ Among c xs → (c ≡ d) ⊎ Among c (x ∷ xs)
    by_rest (inl e) = inl e
    by_rest (inr m) = inr (inr m)

    by_side : (Among c (with_clause d xs) → (c ≡ d) ⊎ Among c xs) → (c ≡ x) ⊎ Among c (with_clause d xs) → (c ≡ d) ⊎ Among c (x ∷ xs)
    by_side rest (inl e) = inr (inl e)
    by_side rest (inr m) = by_rest (rest m)

    by_order : (b : Bool) → (Among c (with_clause d xs) → (c ≡ d) ⊎ Among c xs) → Among c (cond b (d ∷ (x ∷ xs)) (x ∷ with_clause d xs)) → (c ≡ d) ⊎ Among c (x ∷ xs)
    by_order true rest m = m
    by_order false rest m = by_side rest m

pub with-among : (c d : NumberedClause) (cs : List NumberedClause) → (c ≡ d) ⊎ Among c cs → Among c (with_clause d cs)
with-among c d [] h = h
with-among c d (x ∷ xs) h = by_order (nat_lt d.id x.id) (with-among c d xs) h
  where
    by_order : (b : Bool) → ((c ≡ d) ⊎ Among c xs → Among c (with_clause d xs)) → (c ≡ d) ⊎ Among c (x ∷ xs) → Among c (cond b (d ∷ (x ∷ xs)) (x ∷ with_clause d xs))
    by_order true rest m = m
    by_order false rest (inl e) = inr (rest (inl e))
    by_order false rest (inr (inl e)) = inl e
    by_order false rest (inr (inr m)) = inr (rest (inr m))

nat_eq_not : (a b : ℕ) → a ≢ b → nat_eq a b ≡ false
nat_eq_not a b = grind (arith, nat_tests)

nat_eq_yes : (a b : ℕ) → a ≡ b → nat_eq a b ≡ true
nat_eq_yes a b = grind (arith, nat_tests)

-- numbers that rise from one on are at least that one
pub rise-least : (low : ℕ) (cs : List NumberedClause) (c : NumberedClause) → NumbersRise low cs → Among c cs → low ≤ c.id
rise-least low [] c r h = absurd h
rise-least low (d ∷ ds) c r (inl e) = rw e r.0
rise-least low (d ∷ ds) c r (inr h) = omega (arith, r.0, rise-least (d.id + 1) ds c r.1 h)

-- a clause of clauses by rising number is what is held under its number
pub rise-under : (low : ℕ) (cs : List NumberedClause) (c : NumberedClause) → NumbersRise low cs → Among c cs → lits_under c.id cs ≡ Some c.lits
rise-under low [] c r h = absurd h
rise-under low (d ∷ ds) c r (inl e) =
    let same : nat_eq d.id c.id ≡ true = nat_eq_yes d.id c.id (ap (λ (x : NumberedClause). x.id) (sym e)) in
    rw same (ap (λ (x : NumberedClause). Some x.lits) (sym e))
rise-under low (d ∷ ds) c r (inr h) =
    let above : d.id + 1 ≤ c.id = rise-least (d.id + 1) ds c r.1 h in
    let other : nat_eq d.id c.id ≡ false = nat_eq_not d.id c.id (λ e. let f : d.id ≡ c.id = e in omega arith) in
    rw other (rise-under (d.id + 1) ds c r.1 h)

-- a number that is not held is no clause's
pub under-none : (id : ℕ) (cs : List NumberedClause) (c : NumberedClause) → lits_under id cs ≡ None → Among c cs → c.id ≢ id
under-none id [] c n h e = h
under-none id (d ∷ ds) c n h e = by_test (nat_eq d.id id) refl (λ m. λ k. under-none id ds c m k e) n h
  where
    by_side : (b : Bool) → nat_eq d.id id ≡ false → (Among c ds → ⊥) → (c ≡ d) ⊎ Among c ds → ⊥
    by_side b t rest (inl s) = false≢true (sym t ∙ nat_eq_yes d.id id (ap (λ (x : NumberedClause). x.id) (sym s) ∙ e))
    by_side b t rest (inr m) = rest m

    by_test : (b : Bool) → nat_eq d.id id ≡ b → (lits_under id ds ≡ None → Among c ds → ⊥) → option_map (λ (x : NumberedClause). x.lits) (cond b (Some d) (find (λ (x : NumberedClause). nat_eq x.id id) ds)) ≡ None → (c ≡ d) ⊎ Among c ds → ⊥
    by_test true t rest m k = none_lits d.lits (sym m)
    by_test false t rest m k = by_side false t (rest m) k

-- numbers rise also with a clause whose number is not held
pub rise-with : (low : ℕ) (c : NumberedClause) (cs : List NumberedClause) → low ≤ c.id → ((d : NumberedClause) → Among d cs → d.id ≢ c.id) → NumbersRise low cs → NumbersRise low (with_clause c cs)
rise-with low c [] b h r = (b, tt)
rise-with low c (d ∷ ds) b h r = by_order (nat_lt c.id d.id) refl (λ l. rise-with (d.id + 1) c ds l (λ x m. h x (inr m)) r.1)
  where
    by_order : (t : Bool) → nat_lt c.id d.id ≡ t → (d.id + 1 ≤ c.id → NumbersRise (d.id + 1) (with_clause c ds)) → NumbersRise low (cond t (c ∷ (d ∷ ds)) (d ∷ with_clause c ds))
    by_order true e rest = (b, (let l : c.id < d.id = ltb-true c.id d.id e in omega arith, r.1))
    by_order false e rest =
        let l : d.id ≤ c.id = ltb-false c.id d.id e in
        let n : d.id ≡ c.id → ⊥ = h d (inl refl) in
        (r.0, rest (omega arith))

pub rise-lower : (low lower : ℕ) (cs : List NumberedClause) → lower ≤ low → NumbersRise low cs → NumbersRise lower cs
rise-lower low lower [] l r = tt
rise-lower low lower (c ∷ cs) l r = (omega (arith, r.0), r.1)

pub rise-passed : (p : NumberedClause → Bool) (low : ℕ) (cs : List NumberedClause) → NumbersRise low cs → NumbersRise low (filter p cs)
rise-passed p low [] r = tt
rise-passed p low (c ∷ cs) r = by_test (p c) (rise-passed p (c.id + 1) cs r.1)
  where
    by_test : (b : Bool) → NumbersRise (c.id + 1) (filter p cs) → NumbersRise low (cond b (c ∷ filter p cs) (filter p cs))
    by_test true rest = (r.0, rest)
    by_test false rest = rise-lower (c.id + 1) low (filter p cs) (omega (arith, r.0)) rest
