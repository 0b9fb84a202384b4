use Rattle.std.proofs.Common.{◌≡◌, ◌≢◌, ℕ, zero, suc, ◌+◌, ◌-◌, ◌<◌, ◌≤◌, Bool, true, false, nat_lt, nat_eq, cond, List, [], ◌∷◌, ◌++◌, length, map, set, get_or, Option, Some, None, Result, refl, sym, ◌∙◌, ap, arith}
use Rattle.std.specs.Prelude.{filter}
use Rattle.std.specs.List.{insert, slice_get}
use Rattle.std.specs.List.Sorted.{IsPartitionedBy}
use Rattle.std.specs.Result.{IsOk, is_ok}
use Rattle.std.proofs.lemmas.Bool.Decides.{nat_tests}
use Rattle.mal_store.specs.declared.entry.Entry.{Entry}
use Rattle.mal_store.specs.declared.entry.Held.{Held}
use Rattle.mal_store.specs.Indexed.{EntriesRise, AreBelow, entry_under, with_entry, moved, settled}

at_least : (low : ℕ) (es : List Entry) (k : ℕ) (d : Entry) → EntriesRise low es → k < length es → low ≤ (get_or es k d).id
at_least low [] k d h l = absurd (omega arith)
at_least low (e ∷ es) zero d h l = h.0
at_least low (e ∷ es) (suc k) d h l = omega (arith, h.0, at_least (e.id + 1) es k d h.1 (omega arith))

-- of two entries the one in front has the smaller number
pub rising : (low : ℕ) (es : List Entry) (i j : ℕ) (d : Entry) → EntriesRise low es → i < j → j < length es → (get_or es i d).id < (get_or es j d).id
rising low [] i j d h a l = absurd (omega arith)
rising low (e ∷ es) i zero d h a l = absurd (omega arith)
rising low (e ∷ es) zero (suc j) d h a l = omega (arith, at_least (e.id + 1) es j d h.1 (omega arith))
rising low (e ∷ es) (suc i) (suc j) d h a l = rising (e.id + 1) es i j d h.1 (omega arith) (omega arith)

-- what stands at a place does not depend on what would stand past the end
get_or-same : (es : List Entry) (k : ℕ) (d f : Entry) → k < length es → get_or es k d ≡ get_or es k f
get_or-same [] k d f l = absurd (omega arith)
get_or-same (e ∷ es) zero d f l = refl
get_or-same (e ∷ es) (suc k) d f l = get_or-same es k d f (omega arith)

pub test_lt : (a b : ℕ) → nat_lt a b ≡ true → a < b
test_lt a b = grind (arith, nat_tests)

pub lt_test : (a b : ℕ) → a < b → nat_lt a b ≡ true
lt_test a b = grind (arith, nat_tests)

pub test_not : (a b : ℕ) → nat_lt a b ≡ false → b ≤ a
test_not a b = grind (arith, nat_tests)

not_test : (a b : ℕ) → b ≤ a → nat_lt a b ≡ false
not_test a b = grind (arith, nat_tests)

eq_not : (a b : ℕ) → a ≢ b → nat_eq a b ≡ false
eq_not a b = grind (arith, nat_tests)

eq_yes : (a b : ℕ) → a ≡ b → nat_eq a b ≡ true
eq_yes a b = grind (arith, nat_tests)

pub yes_eq : (a b : ℕ) → nat_eq a b ≡ true → a ≡ b
yes_eq a b = grind (arith, nat_tests)

-- entries of numbers below one stand in front of the others
pub entries-part : (id : ℕ) (es : List Entry) → EntriesRise 1 es → IsPartitionedBy (λ (e : Entry). nat_lt e.id id) es
entries-part id es h zero zero d a l t = t
entries-part id es h i j d a l t = by_order (nat_lt i j) refl
  where
    by_order : (b : Bool) → nat_lt i j ≡ b → nat_lt (get_or es i d).id id ≡ true
    by_order true o = lt_test (get_or es i d).id id (omega (arith, rising 1 es i j d h (test_lt i j o) l, test_lt (get_or es j d).id id t))
    by_order false o =
        let same : i ≡ j = omega (arith, test_not i j o) in
        rw same t

-- where all entries have numbers below one if the last has
pub all-below : (es : List Entry) (number k : ℕ) (s d : Entry) → EntriesRise 1 es → k < length es → s ≡ get_or es (length es - 1) s → s.id < number → (get_or es k d).id < number
all-below es number k s d r l e n = by_order (nat_lt k (length es - 1)) refl
  where
    here : get_or es (length es - 1) d ≡ get_or es (length es - 1) s
    here = get_or-same es (length es - 1) d s (omega arith)

    last : (get_or es (length es - 1) d).id < number
    last = rw (here, ← e) n

    by_order : (b : Bool) → nat_lt k (length es - 1) ≡ b → (get_or es k d).id < number
    by_order true t = omega (arith, last, rising 1 es k (length es - 1) d r (test_lt k (length es - 1) t) (omega arith))
    by_order false t =
        let same : k ≡ length es - 1 = omega (arith, test_not k (length es - 1) t) in
        rw same last

-- where an entry goes among others
pub with-at : (e : Entry) (es : List Entry) (place : ℕ) → place ≤ length es → ((k : ℕ) (d : Entry) → k < place → (get_or es k d).id < e.id) → ((k : ℕ) (d : Entry) → place ≤ k → k < length es → e.id < (get_or es k d).id) → with_entry e es ≡ insert es place e
with-at e [] zero l b a = refl
with-at e [] (suc k) l b a = absurd (omega arith)
with-at e (x ∷ xs) zero l b a =
    let less : nat_lt e.id x.id ≡ true = lt_test e.id x.id (a 0 e (omega arith) (omega arith)) in
    rw less refl
with-at e (x ∷ xs) (suc k) l b a =
    let more : nat_lt e.id x.id ≡ false = not_test e.id x.id (omega (arith, b 0 e (omega arith))) in
    rw more (ap (λ (es : List Entry). x ∷ es) (with-at e xs k (omega arith) (λ i d h. b (suc i) d (omega arith)) (λ i d h m. a (suc i) d (omega arith) (omega arith))))

some_none : (e : Entry) → ◌≡◌ {A = Option Entry} (Some e) None → ⊥
some_none e q = cc

-- a number without an entry
pub under-none : (id : ℕ) (es : List Entry) → ((k : ℕ) (d : Entry) → k < length es → (get_or es k d).id ≢ id) → entry_under id es ≡ None
under-none id [] h = refl
under-none id (e ∷ es) h =
    let other : nat_eq e.id id ≡ false = eq_not e.id id (h 0 e (omega arith)) in
    rw other (under-none id es (λ k d l. h (suc k) d (omega arith)))

first-other : (id : ℕ) (e : Entry) (es : List Entry) → entry_under id (e ∷ es) ≡ None → (e.id ≢ id) × (entry_under id es ≡ None)
first-other id e es n = by_test (nat_eq e.id id) refl n
  where
    by_test : (b : Bool) → nat_eq e.id id ≡ b → cond b (Some e) (entry_under id es) ≡ None → (e.id ≢ id) × (entry_under id es ≡ None)
    by_test true t m = absurd (some_none e m)
    by_test false t m = (λ q. differ (eq_yes e.id id q) t, m)
      where
        differ : nat_eq e.id id ≡ true → nat_eq e.id id ≡ false → ⊥
        differ p q = cc

absent : (id : ℕ) (es : List Entry) → entry_under id es ≡ None → (k : ℕ) (d : Entry) → k < length es → (get_or es k d).id ≢ id
absent id [] n k d l = absurd (omega arith)
absent id (e ∷ es) n zero d l = (first-other id e es n).0
absent id (e ∷ es) n (suc k) d l = absent id es (first-other id e es n).1 k d (omega arith)

-- the entry of a number is the one that has it
pub under-at : (low id : ℕ) (es : List Entry) (k : ℕ) (r : Entry) → EntriesRise low es → k < length es → r ≡ get_or es k r → r.id ≡ id → entry_under id es ≡ slice_get es k
under-at low id [] k r h l e i = absurd (omega arith)
under-at low id (x ∷ xs) zero r h l e i =
    let same : nat_eq x.id id ≡ true = eq_yes x.id id (ap (λ (y : Entry). y.id) (sym e) ∙ i) in
    rw same refl
under-at low id (x ∷ xs) (suc k) r h l e i =
    let more : x.id + 1 ≤ r.id = rw e (at_least (x.id + 1) xs k r h.1 (omega arith)) in
    let other : nat_eq x.id id ≡ false = eq_not x.id id (λ q. omega (arith, more, i, q)) in
    rw other (under-at (x.id + 1) id xs k r h.1 (omega arith) e i)

some_one : (d e : Entry) → Some d ≡ Some e → d ≡ e
some_one d e q = cc

get-one : (es : List Entry) (k : ℕ) (r : Entry) → k < length es → r ≡ get_or es k r → slice_get es k ≡ Some r
get-one [] k r l e = absurd (omega arith)
get-one (x ∷ xs) zero r l e = ap (λ (y : Entry). Some y) (sym e)
get-one (x ∷ xs) (suc k) r l e = get-one xs k r (omega arith) e

has-under : (id : ℕ) (es : List Entry) (e : Entry) → entry_under id es ≡ Some e → e.id ≡ id
has-under id [] e s = absurd (some_none e (sym s))
has-under id (x ∷ xs) e s = by_test (nat_eq x.id id) refl (has-under id xs e) s
  where
    by_test : (b : Bool) → nat_eq x.id id ≡ b → (entry_under id xs ≡ Some e → e.id ≡ id) → cond b (Some x) (entry_under id xs) ≡ Some e → e.id ≡ id
    by_test true t f q = ap (λ (y : Entry). y.id) (sym (some_one x e q)) ∙ yes_eq x.id id t
    by_test false t f q = f q

pub under-id : (id : ℕ) (es : List Entry) (k : ℕ) (r : Entry) → k < length es → r ≡ get_or es k r → entry_under id es ≡ slice_get es k → r.id ≡ id
under-id id es k r l e q = has-under id es r (q ∙ get-one es k r l e)

-- where the first entry whose number is not below one has another, or there is none, that one has no entry
pub under-past : (id place : ℕ) (es : List Entry) → EntriesRise 1 es → ((k : ℕ) (d : Entry) → k < place → (get_or es k d).id < id) → ((k : ℕ) (d : Entry) → place ≤ k → k < length es → id ≤ (get_or es k d).id) → ((d : Entry) → place < length es → (get_or es place d).id ≢ id) → entry_under id es ≡ None
under-past id place es r b a o = under-none id es (λ k d h e. by_order k d h e (nat_lt k place) refl (nat_lt place k) refl)
  where
    by_order : (k : ℕ) (d : Entry) → k < length es → (get_or es k d).id ≡ id → (x : Bool) → nat_lt k place ≡ x → (y : Bool) → nat_lt place k ≡ y → ⊥
    by_order k d h e true t y u = omega (arith, e, b k d (test_lt k place t))
    by_order k d h e false t true u = omega (arith, e, a place d (omega arith) (omega (arith, h, test_lt place k u)), rising 1 es place k d r (test_lt place k u) h)
    by_order k d h e false t false u =
        let same : k ≡ place = omega (arith, test_not k place t, test_not place k u) in
        o d (rw same at h) (rw same at e)

-- another entry at a place
pub other-at : (id place : ℕ) (es : List Entry) (s d : Entry) → place < length es → s ≡ get_or es place s → s.id ≢ id → (get_or es place d).id ≢ id
other-at id place es s d l e n q = n (ap (λ (x : Entry). x.id) (e ∙ get_or-same es place s d l) ∙ q)

-- what was inserted with room stands there
pub insert_items : {A B : Type 0} (r : Result A B) (xs ys : List Entry) → IsOk r → cond (is_ok r) xs ys ≡ xs
insert_items {A} {B} r xs ys h = rw h refl

pub strictly : (id place : ℕ) (es : List Entry) → entry_under id es ≡ None → ((k : ℕ) (d : Entry) → place ≤ k → k < length es → id ≤ (get_or es k d).id) → (k : ℕ) (d : Entry) → place ≤ k → k < length es → id < (get_or es k d).id
strictly id place es n a k d h m = strict id (get_or es k d).id (a k d h m) (absent id es n k d m)
  where
    strict : (x y : ℕ) → x ≤ y → y ≢ x → x < y
    strict x y h d = by_order (nat_lt x y) refl
      where
        by_order : (t : Bool) → nat_lt x y ≡ t → x < y
        by_order true t = test_lt x y t
        by_order false t = absurd (d (omega (arith, test_not x y t)))

-- the long clause of a number stands at another place
settled-above : (low id place : ℕ) (es : List Entry) → EntriesRise low es → id < low → map (settled id place) es ≡ es
settled-above low id place [] h l = refl
settled-above low id place (e ∷ es) h l =
    let other : nat_eq e.id id ≡ false = eq_not e.id id (λ q. omega (arith, h.0, l, q)) in
    let rest : map (settled id place) es ≡ es = settled-above (e.id + 1) id place es h.1 (omega (arith, h.0, l)) in
    rw (other, rest) refl

pub settled-none : (id place : ℕ) (es : List Entry) → entry_under id es ≡ None → map (settled id place) es ≡ es
settled-none id place [] n = refl
settled-none id place (e ∷ es) n =
    let other : nat_eq e.id id ≡ false = eq_not e.id id (first-other id e es n).0 in
    let rest : map (settled id place) es ≡ es = settled-none id place es (first-other id e es n).1 in
    rw (other, rest) refl

pub settled-at : (low id place : ℕ) (es : List Entry) (k : ℕ) (r s : Entry) → EntriesRise low es → k < length es → r ≡ get_or es k r → r.id ≡ id → s.id ≡ id → s.held ≡ moved place r.held → map (settled id place) es ≡ set es k s
settled-at low id place [] k r s h l e i j m = absurd (omega arith)
settled-at low id place (x ∷ xs) zero r s h l e i j m =
    let here : x.id ≡ id = ap (λ (y : Entry). y.id) (sym e) ∙ i in
    let same : nat_eq x.id id ≡ true = eq_yes x.id id here in
    let rest : map (settled id place) xs ≡ xs = settled-above (x.id + 1) id place xs h.1 (omega (arith, here)) in
    let put : moved place x.held ≡ s.held = ap (λ (y : Entry). moved place y.held) (sym e) ∙ sym m in
    rw (same, rest) (ap (λ (y : Entry). y ∷ xs) (whole s x.id (moved place x.held) (here ∙ sym j) put))
  where
    whole : (t : Entry) (n : ℕ) (held : Held) → n ≡ t.id → held ≡ t.held → ◌≡◌ {A = Entry} (record { id = n; held = held }) t
    whole t n held p q = rw (p, q) refl
settled-at low id place (x ∷ xs) (suc k) r s h l e i j m =
    let more : x.id + 1 ≤ r.id = rw e (at_least (x.id + 1) xs k r h.1 (omega arith)) in
    let other : nat_eq x.id id ≡ false = eq_not x.id id (λ q. omega (arith, more, i, q)) in
    let rest : map (settled id place) xs ≡ set xs k s = settled-at (x.id + 1) id place xs k r s h.1 (omega arith) e i j m in
    rw (other, rest) refl

-- entries in two lists
rise-lower : (low high : ℕ) (es : List Entry) → low ≤ high → EntriesRise high es → EntriesRise low es
rise-lower low high [] l h = tt
rise-lower low high (e ∷ es) l h = (omega (arith, h.0), h.1)

pub rise-behind : (es : List Entry) → EntriesRise 4294967296 es → EntriesRise 1 es
rise-behind es h = rise-lower 1 4294967296 es (omega arith) h

pub rise-append : (low mid : ℕ) (xs ys : List Entry) → low ≤ mid → EntriesRise low xs → AreBelow mid xs → EntriesRise mid ys → EntriesRise low (xs ++ ys)
rise-append low mid [] ys l h b r = rise-lower low mid ys l r
rise-append low mid (x ∷ xs) ys l h b r = (h.0, rise-append (x.id + 1) mid xs ys (omega (arith, b.0)) h.1 b.1 r)

-- a number below all of the second list has its entry in the first, and the other way round
pub under-front : (id mid : ℕ) (xs ys : List Entry) → id < mid → EntriesRise mid ys → entry_under id (xs ++ ys) ≡ entry_under id xs
under-front id mid [] ys l r = none-above mid ys l r
  where
    none-above : (low : ℕ) (zs : List Entry) → id < low → EntriesRise low zs → entry_under id zs ≡ None
    none-above low [] a h = refl
    none-above low (z ∷ zs) a h =
        let other : nat_eq z.id id ≡ false = eq_not z.id id (λ q. omega (arith, h.0, a, q)) in
        rw other (none-above (z.id + 1) zs (omega (arith, h.0, a)) h.1)
under-front id mid (x ∷ xs) ys l r = ap (λ (o : Option Entry). cond (nat_eq x.id id) (Some x) o) (under-front id mid xs ys l r)

pub under-back : (id mid : ℕ) (xs ys : List Entry) → mid ≤ id → AreBelow mid xs → entry_under id (xs ++ ys) ≡ entry_under id ys
under-back id mid [] ys l b = refl
under-back id mid (x ∷ xs) ys l b =
    let other : nat_eq x.id id ≡ false = eq_not x.id id (λ q. omega (arith, b.0, l, q)) in
    rw other (under-back id mid xs ys l b.1)

pub with-front : (e : Entry) (mid : ℕ) (xs ys : List Entry) → e.id < mid → EntriesRise mid ys → with_entry e (xs ++ ys) ≡ with_entry e xs ++ ys
with-front e mid [] [] l r = refl
with-front e mid [] (y ∷ ys) l r =
    let less : nat_lt e.id y.id ≡ true = lt_test e.id y.id (omega (arith, r.0)) in
    rw less refl
with-front e mid (x ∷ xs) ys l r = by_test (nat_lt e.id x.id) (with-front e mid xs ys l r)
  where
    by_test : (b : Bool) → with_entry e (xs ++ ys) ≡ with_entry e xs ++ ys → cond b (e ∷ (x ∷ (xs ++ ys))) (x ∷ with_entry e (xs ++ ys)) ≡ cond b (e ∷ (x ∷ xs)) (x ∷ with_entry e xs) ++ ys
    by_test true f = refl
    by_test false f = ap (λ (es : List Entry). x ∷ es) f

pub with-back : (e : Entry) (mid : ℕ) (xs ys : List Entry) → mid ≤ e.id → AreBelow mid xs → with_entry e (xs ++ ys) ≡ xs ++ with_entry e ys
with-back e mid [] ys l b = refl
with-back e mid (x ∷ xs) ys l b =
    let more : nat_lt e.id x.id ≡ false = not_test e.id x.id (omega (arith, b.0)) in
    rw more (ap (λ (es : List Entry). x ∷ es) (with-back e mid xs ys l b.1))

pub settled-front : (id place mid : ℕ) (xs ys : List Entry) → id < mid → EntriesRise mid ys → map (settled id place) (xs ++ ys) ≡ map (settled id place) xs ++ ys
settled-front id place mid [] ys l r = settled-above mid id place ys r l
settled-front id place mid (x ∷ xs) ys l r = ap (λ (es : List Entry). settled id place x ∷ es) (settled-front id place mid xs ys l r)

pub settled-back : (id place mid : ℕ) (xs ys : List Entry) → mid ≤ id → AreBelow mid xs → map (settled id place) (xs ++ ys) ≡ xs ++ map (settled id place) ys
settled-back id place mid [] ys l b = refl
settled-back id place mid (x ∷ xs) ys l b =
    let other : nat_eq x.id id ≡ false = eq_not x.id id (λ q. omega (arith, b.0, l, q)) in
    let rest : map (settled id place) (xs ++ ys) ≡ xs ++ map (settled id place) ys = settled-back id place mid xs ys l b.1 in
    rw (other, rest) refl

-- numbers still rise, and are below the same one
pub rise-with : (low : ℕ) (e : Entry) (es : List Entry) → low ≤ e.id → entry_under e.id es ≡ None → EntriesRise low es → EntriesRise low (with_entry e es)
rise-with low e [] l n h = (l, tt)
rise-with low e (x ∷ xs) l n h = by_test (λ a. rise-with (x.id + 1) e xs a (first-other e.id x xs n).1 h.1) (nat_lt e.id x.id) refl
  where
    more : (e.id ≡ x.id → ⊥) → x.id ≤ e.id → x.id + 1 ≤ e.id
    more d a = by_order (nat_lt x.id e.id) refl
      where
        by_order : (t : Bool) → nat_lt x.id e.id ≡ t → x.id + 1 ≤ e.id
        by_order true t = omega (arith, test_lt x.id e.id t)
        by_order false t = absurd (d (omega (arith, a, test_not x.id e.id t)))

    by_test : (x.id + 1 ≤ e.id → EntriesRise (x.id + 1) (with_entry e xs)) → (b : Bool) → nat_lt e.id x.id ≡ b → EntriesRise low (cond b (e ∷ (x ∷ xs)) (x ∷ with_entry e xs))
    by_test f true t = (l, (omega (arith, test_lt e.id x.id t), h.1))
    by_test f false t = (h.0, f (more (λ q. (first-other e.id x xs n).0 (sym q)) (test_not e.id x.id t)))

pub below-with : (high : ℕ) (e : Entry) (es : List Entry) → e.id < high → AreBelow high es → AreBelow high (with_entry e es)
below-with high e [] l h = (l, tt)
below-with high e (x ∷ xs) l h = by_test (below-with high e xs l h.1) (nat_lt e.id x.id)
  where
    by_test : AreBelow high (with_entry e xs) → (b : Bool) → AreBelow high (cond b (e ∷ (x ∷ xs)) (x ∷ with_entry e xs))
    by_test f true = (l, (h.0, h.1))
    by_test f false = (h.0, f)

pub rise-filter : (test : Entry → Bool) (low : ℕ) (es : List Entry) → EntriesRise low es → EntriesRise low (filter test es)
rise-filter test low [] h = tt
rise-filter test low (e ∷ es) h = by_test (rise-filter test (e.id + 1) es h.1) (test e)
  where
    by_test : EntriesRise (e.id + 1) (filter test es) → (b : Bool) → EntriesRise low (cond b (e ∷ filter test es) (filter test es))
    by_test k true = (h.0, k)
    by_test k false = rise-lower low (e.id + 1) (filter test es) (omega (arith, h.0)) k

pub below-filter : (test : Entry → Bool) (high : ℕ) (es : List Entry) → AreBelow high es → AreBelow high (filter test es)
below-filter test high [] h = tt
below-filter test high (e ∷ es) h = by_test (below-filter test high es h.1) (test e)
  where
    by_test : AreBelow high (filter test es) → (b : Bool) → AreBelow high (cond b (e ∷ filter test es) (filter test es))
    by_test k true = (h.0, k)
    by_test k false = k

pub rise-settled : (id place low : ℕ) (es : List Entry) → EntriesRise low es → EntriesRise low (map (settled id place) es)
rise-settled id place low [] h = tt
rise-settled id place low (e ∷ es) h = (h.0, rise-settled id place (e.id + 1) es h.1)

pub below-settled : (id place high : ℕ) (es : List Entry) → AreBelow high es → AreBelow high (map (settled id place) es)
below-settled id place high [] h = tt
below-settled id place high (e ∷ es) h = (h.0, below-settled id place high es h.1)

-- the entry at a place of two lists
pub get-front : (xs ys : List Entry) (k : ℕ) (r : Entry) → k < length xs → r ≡ get_or xs k r → slice_get (xs ++ ys) k ≡ Some r
get-front [] ys k r l e = absurd (omega arith)
get-front (x ∷ xs) ys zero r l e = ap (λ (y : Entry). Some y) (sym e)
get-front (x ∷ xs) ys (suc k) r l e = get-front xs ys k r (omega arith) e

pub get-back : (xs ys : List Entry) (k : ℕ) (r : Entry) → length xs ≤ k → k < length xs + length ys → r ≡ get_or ys (k - length xs) r → slice_get (xs ++ ys) k ≡ Some r
get-back [] ys k r l m e = get-one ys k r (omega arith) (e ∙ ap (λ (n : ℕ). get_or ys n r) (omega arith))
get-back (x ∷ xs) ys zero r l m e = absurd (omega arith)
get-back (x ∷ xs) ys (suc k) r l m e =
    let same : suc k - length (x ∷ xs) ≡ k - length xs = omega arith in
    get-back xs ys k r (omega arith) (omega arith) (e ∙ ap (λ (n : ℕ). get_or ys n r) same)
