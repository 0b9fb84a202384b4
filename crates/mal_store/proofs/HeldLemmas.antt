use Rattle.std.proofs.Common.{◌≡◌, ℕ, zero, suc, Bool, true, false, nat_lt, nat_eq, cond, List, [], ◌∷◌, ◌++◌, length, Option, Some, None, refl, sym, ◌∙◌, ap, subst, arith}
use Rattle.std.specs.List.{slice_get}
use Rattle.std.specs.Option.{option_map}
use Rattle.std.proofs.lemmas.List.{length-append, length-map, get_or_append_left}
use Rattle.mal_base.specs.NumberedClause.{NumberedClause, lits_under}
use Rattle.spec_node.specs.Adding.{with_clause}
use Rattle.mal_store.specs.declared.entry.Entry.{Entry}
use Rattle.mal_store.specs.declared.entry.Held.{Held}
use Rattle.mal_store.specs.declared.entry.Held.TheVariants.{Empty, One, Long}
use Rattle.mal_store.specs.Indexed.{entry_under, with_entry}
use Rattle.mal_store.specs.Arena.{no_clause}
use Rattle.mal_store.specs.Stored.{lits_held, entry_clause, held_in, IsPlaced, ArePlaced, is_long, with_long}

pub held-length : (long : List NumberedClause) (es : List Entry) → length (held_in long es) ≡ length es
held-length long es = length-map es (entry_clause long)

-- clauses stay where more long ones come after
lits-more : (long more : List NumberedClause) (id : ℕ) (h : Held) → IsPlaced long id h → lits_held (long ++ more) h ≡ lits_held long h
lits-more long more id Empty p = refl
lits-more long more id (One lits) p = refl
lits-more long more id (Long place) p = ap (λ (c : NumberedClause). c.lits) (get_or_append_left long more no_clause place p.0)

placed-more : (long more : List NumberedClause) (id : ℕ) (h : Held) → IsPlaced long id h → IsPlaced (long ++ more) id h
placed-more long more id Empty p = tt
placed-more long more id (One lits) p = tt
placed-more long more id (Long place) p = (omega (arith, p.0, length-append long more), ap (λ (c : NumberedClause). c.id) (get_or_append_left long more no_clause place p.0) ∙ p.1)

all-placed-more : (long more : List NumberedClause) (es : List Entry) → ArePlaced long es → ArePlaced (long ++ more) es
all-placed-more long more [] p = tt
all-placed-more long more (e ∷ es) p = (placed-more long more e.id e.held p.0, all-placed-more long more es p.1)

held-more : (long more : List NumberedClause) (es : List Entry) → ArePlaced long es → held_in (long ++ more) es ≡ held_in long es
held-more long more [] p = refl
held-more long more (e ∷ es) p = rw (lits-more long more e.id e.held p.0, held-more long more es p.1) refl

all-placed-long : (c : NumberedClause) (long : List NumberedClause) (es : List Entry) → ArePlaced long es → ArePlaced (with_long c long) es
all-placed-long c long es p = by_test (is_long c)
  where
    by_test : (b : Bool) → ArePlaced (cond b (long ++ c ∷ []) long) es
    by_test true = all-placed-more long (c ∷ []) es p
    by_test false = p

held-long : (c : NumberedClause) (long : List NumberedClause) (es : List Entry) → ArePlaced long es → held_in (with_long c long) es ≡ held_in long es
held-long c long es p = by_test (is_long c)
  where
    by_test : (b : Bool) → held_in (cond b (long ++ c ∷ []) long) es ≡ held_in long es
    by_test true = held-more long (c ∷ []) es p
    by_test false = refl

-- an entry more
held-with : (long : List NumberedClause) (e : Entry) (es : List Entry) → held_in long (with_entry e es) ≡ with_clause (entry_clause long e) (held_in long es)
held-with long e [] = refl
held-with long e (d ∷ ds) = by_test (nat_lt e.id d.id) (held-with long e ds)
  where
    by_test : (b : Bool) → held_in long (with_entry e ds) ≡ with_clause (entry_clause long e) (held_in long ds) → held_in long (cond b (e ∷ (d ∷ ds)) (d ∷ with_entry e ds)) ≡ cond b (entry_clause long e ∷ (entry_clause long d ∷ held_in long ds)) (entry_clause long d ∷ with_clause (entry_clause long e) (held_in long ds))
    by_test true f = refl
    by_test false f = ap (λ (cs : List NumberedClause). entry_clause long d ∷ cs) f

placed-with : (long : List NumberedClause) (e : Entry) (es : List Entry) → IsPlaced long e.id e.held → ArePlaced long es → ArePlaced long (with_entry e es)
placed-with long e [] h p = (h, tt)
placed-with long e (d ∷ ds) h p = by_test (placed-with long e ds h p.1) (nat_lt e.id d.id)
  where
    by_test : ArePlaced long (with_entry e ds) → (b : Bool) → ArePlaced long (cond b (e ∷ (d ∷ ds)) (d ∷ with_entry e ds))
    by_test f true = (h, p)
    by_test f false = (p.0, f)

pub placed-added : (long new : List NumberedClause) (c : NumberedClause) (e : Entry) (es : List Entry) → new ≡ with_long c long → IsPlaced new e.id e.held → ArePlaced long es → ArePlaced new (with_entry e es)
placed-added long new c e es n h p = placed-with new e es h (rw n (all-placed-long c long es p))

pub held-added : (long new : List NumberedClause) (id : ℕ) (held : Held) (lits : List ℕ) (es : List Entry) → new ≡ with_long (record { id = id; lits = lits }) long → lits_held new held ≡ lits → ArePlaced long es → held_in new (with_entry (record { id = id; held = held }) es) ≡ with_clause (record { id = id; lits = lits }) (held_in long es)
held-added long new id held lits es n l p =
    let rest : held_in new es ≡ held_in long es = ap (λ (xs : List NumberedClause). held_in xs es) n ∙ held-long (record { id = id; lits = lits }) long es p in
    held-with new (record { id = id; held = held }) es ∙ (ap (λ (cs : List NumberedClause). with_clause (entry_clause new (record { id = id; held = held })) cs) rest ∙ ap (λ (ls : List ℕ). let c : NumberedClause = record { id = id; lits = ls } in with_clause c (held_in long es)) l)

-- a number is held where it has an entry
pub under-held : (long : List NumberedClause) (id : ℕ) (es : List Entry) → lits_under id (held_in long es) ≡ option_map (λ (e : Entry). lits_held long e.held) (entry_under id es)
under-held long id [] = refl
under-held long id (e ∷ es) = by_test (nat_eq e.id id) refl (under-held long id es)
  where
    by_test : (b : Bool) → nat_eq e.id id ≡ b → lits_under id (held_in long es) ≡ option_map (λ (x : Entry). lits_held long x.held) (entry_under id es) → lits_under id (held_in long (e ∷ es)) ≡ option_map (λ (x : Entry). lits_held long x.held) (entry_under id (e ∷ es))
    by_test true t f = rw t refl
    by_test false t f = rw t f

pub none-under : (long : List NumberedClause) (id : ℕ) (es : List Entry) → lits_under id (held_in long es) ≡ None → entry_under id es ≡ None
none-under long id es n = by_entry (entry_under id es) (sym (under-held long id es) ∙ n)
  where
    some_none : (lits : List ℕ) → ◌≡◌ {A = Option (List ℕ)} (Some lits) None → ⊥
    some_none lits e = cc

    by_entry : (o : Option Entry) → option_map (λ (e : Entry). lits_held long e.held) o ≡ None → o ≡ None
    by_entry None q = refl
    by_entry (Some e) q = absurd (some_none (lits_held long e.held) q)

some_one : (d e : Entry) → Some d ≡ Some e → d ≡ e
some_one d e q = cc

none_one : (e : Entry) → ◌≡◌ {A = Option Entry} None (Some e) → ⊥
none_one e q = cc

pub placed-under : (long : List NumberedClause) (id : ℕ) (es : List Entry) (e : Entry) → ArePlaced long es → entry_under id es ≡ Some e → IsPlaced long e.id e.held
placed-under long id [] e p s = absurd (none_one e s)
placed-under long id (d ∷ ds) e p s = by_test (nat_eq d.id id) (placed-under long id ds e p.1) s
  where
    by_test : (b : Bool) → (entry_under id ds ≡ Some e → IsPlaced long e.id e.held) → cond b (Some d) (entry_under id ds) ≡ Some e → IsPlaced long e.id e.held
    by_test true f q = subst (λ (x : Entry). IsPlaced long x.id x.held) (some_one d e q) p.0
    by_test false f q = f q

pub placed-get : (long : List NumberedClause) (es : List Entry) (k : ℕ) (e : Entry) → ArePlaced long es → slice_get es k ≡ Some e → IsPlaced long e.id e.held
placed-get long [] k e p s = absurd (none_one e s)
placed-get long (d ∷ ds) zero e p s = subst (λ (x : Entry). IsPlaced long x.id x.held) (some_one d e s) p.0
placed-get long (d ∷ ds) (suc k) e p s = placed-get long ds k e p.1 s

pub held-get : (long : List NumberedClause) (es : List Entry) (k : ℕ) (e : Entry) → slice_get es k ≡ Some e → slice_get (held_in long es) k ≡ Some (entry_clause long e)
held-get long [] k e s = absurd (none_one e s)
held-get long (d ∷ ds) zero e s = ap (λ (x : Entry). Some (entry_clause long x)) (some_one d e s)
held-get long (d ∷ ds) (suc k) e s = held-get long ds k e s
