use Rattle.std.proofs.Common.{◌≡◌, ℕ, zero, suc, ◌+◌, ◌-◌, ◌/◌, ◌%◌, ◌<◌, ◌≤◌, Bool, true, false, not, nat_eq, nat_lt, List, [], ◌∷◌, ◌++◌, length, take, drop, replicate, get_or, set, Some, None, cond, ◌||◌, ap, refl, sym, ◌∙◌, arith, ⊎_elim, ◌⊎◌, inl, inr, ◌≢◌}
use Rattle.std.specs.List.{list_any, find, IsDistinct}
use Rattle.std.specs.Option.{option_map}
use Rattle.std.specs.Prelude.{eqb}
use Rattle.std.proofs.lemmas.Bool.{false≢true, false_from_ne_true, or_cases, or_parts, cases_lt, cases_eq, ltb-true, lt-ltb, eqb-true, eqb-false, eq-eqb}
use Rattle.std.proofs.lemmas.Bool.Decides.{nat_tests}
use Rattle.std.proofs.lemmas.Map.Keys.{apart_from_distinct}
use Rattle.std.proofs.lemmas.List.{length-map, get_or-take, length-take-le, get_or_append_left, get_or_push, get_or-set_same, get_or-set_other, length_push, length-set, length-drop, get_or-drop}
use Rattle.std.proofs.lemmas.List.Folds.{list_any_at}
use Rattle.mal_base.specs.Literals.{var_of, has_plus, negated, literal}
use Rattle.mal_base.specs.Trails.{value_on}
use Rattle.mal_base.specs.declared.trail_entry.TrailEntry.{TrailEntry}
use Rattle.spec_node.specs.Value.{is_true, is_false, has_value, vars_of}
use Rattle.mal_trail.specs.Trailed.{nowhere, false_place, cleared, Stand}

parity : (a : ℕ) → (a % 2 ≡ 0) ⊎ (a % 2 ≡ 1)
parity a = ⊎_elim inl (λ n. inr (omega (arith, n))) (cases_eq (a % 2) 0)

test_one : (n : ℕ) → n ≡ 1 → nat_eq n 0 ≡ false
test_one n = grind (arith, nat_tests)

even-negated : (l : ℕ) → l % 2 ≡ 0 → negated l ≡ l + 1
even-negated l e = rw (eq-eqb (l % 2) 0 e) refl

odd-negated : (l : ℕ) → l % 2 ≡ 1 → negated l ≡ l - 1
odd-negated l e = rw (test_one (l % 2) e) refl

-- the negation of a literal's negation is the literal
pub negated-back : (l : ℕ) → negated (negated l) ≡ l
negated-back l = ⊎_elim
    (λ e. let p = even-negated l e in let odd : negated l % 2 ≡ 1 = omega arith in let b = odd-negated (negated l) odd in omega arith)
    (λ e. let p = odd-negated l e in let even : negated l % 2 ≡ 0 = omega arith in let b = even-negated (negated l) even in omega arith)
    (parity l)

-- and it is of the same variable
pub negated-var : (l : ℕ) → var_of (negated l) ≡ var_of l
negated-var l = ⊎_elim (λ e. let p = even-negated l e in omega arith) (λ e. let p = odd-negated l e in omega arith) (parity l)

-- an entry that passes a test, where some entry does
record Witness (p : TrailEntry → Bool) (entries : List TrailEntry) (d : TrailEntry) : Type 0 where
  pub at : ℕ
  pub within : at < length entries
  pub passes : p (get_or entries at d) ≡ true

witness : (p : TrailEntry → Bool) (entries : List TrailEntry) (d : TrailEntry) → list_any p entries ≡ true → Witness p entries d
witness p [] d h = absurd (false≢true h)
witness p (e ∷ es) d h =
    ⊎_elim
    (λ t. record { at = 0; within = omega arith; passes = t })
    (λ t. let w = witness p es d t in record { at = suc w.at; within = omega (arith, w.within); passes = w.passes })
    (or_cases (p e) (list_any p es) h)

-- a literal is false under the first entries exactly where its false place is among them
pub false-told : (places : List ℕ) (entries : List TrailEntry) → Stand places entries → length entries < nowhere → (l count : ℕ) → count ≤ length entries → nat_lt (false_place places l) count ≡ is_false (take count entries) l
false-told places entries s bound l count h = by_value (is_false (take count entries) l) refl
  where
    none : TrailEntry
    none = record { lit = 2; reason = None; level = 0 }

    by_value : (b : Bool) → is_false (take count entries) l ≡ b → nat_lt (false_place places l) count ≡ b
    by_value true t =
        let w = witness (λ (e : TrailEntry). nat_eq e.lit (negated l)) (take count entries) none t in
        let below : w.at < count = omega (arith, w.within, length-take-le count entries h) in
        let passes : nat_eq (get_or entries w.at none).lit (negated l) ≡ true = rw (get_or-take count entries w.at none below) at w.passes in
        let is : (get_or entries w.at none).lit ≡ negated l = eqb-true _ _ passes in
        let place : false_place places (negated (negated l)) ≡ w.at = rw is at (s.placed w.at none (omega arith)) in
        lt-ltb _ _ (let p : false_place places l ≡ w.at = rw (negated-back l) at place in omega arith)
    by_value false t = false_from_ne_true (nat_lt (false_place places l) count) (λ m.
        let below : false_place places l < count = ltb-true _ _ m in
        ⊎_elim (λ e. omega arith) (λ there.
        let inside : false_place places l < length (take count entries) = omega (arith, length-take-le count entries h) in
        let passes : nat_eq (get_or (take count entries) (false_place places l) none).lit (negated l) ≡ true = rw (get_or-take count entries (false_place places l) none below) (eq-eqb _ _ there.1) in
        false≢true (sym t ∙ list_any_at (λ (e : TrailEntry). nat_eq e.lit (negated l)) (take count entries) (false_place places l) none inside passes)) (s.there l none))

-- nothing stands on the trail without an entry
pub stand-none : (places : List ℕ) → ((l : ℕ) → false_place places l ≡ nowhere) → Stand places []
stand-none places h = record { placed = λ k d l. absurd (omega arith); there = λ l d. inl (h l) }

none-more : (m u : ℕ) → ◌≡◌ {A = ℕ} (get_or (replicate m nowhere) u nowhere) nowhere
none-more zero u = refl
none-more (suc m) zero = refl
none-more (suc m) (suc u) = none-more m u

place-more : (places : List ℕ) (m l : ℕ) → false_place (places ++ replicate m nowhere) l ≡ false_place places l
place-more [] m l = none-more m l
place-more (x ∷ xs) m zero = refl
place-more (x ∷ xs) m (suc l) = place-more xs m l

-- entries stand also where there are places of more literals
pub stand-more : (places : List ℕ) (m : ℕ) (entries : List TrailEntry) → Stand places entries → Stand (places ++ replicate m nowhere) entries
stand-more places m entries s = record {
  placed = λ k d h. place-more places m _ ∙ s.placed k d h;
  there = λ l d. rw (place-more places m l) (s.there l d);
}

-- an entry of a variable without a value takes its place
pub stand-push : (places : List ℕ) (entries : List TrailEntry) (e : TrailEntry) → Stand places entries → has_value entries (var_of e.lit) ≡ false → negated e.lit < length places → Stand (set places (negated e.lit) (length entries)) (entries ++ e ∷ [])
stand-push places entries e s free room = record {
  placed = λ k d h. ⊎_elim (old k d) (new k d h) (cases_lt k (length entries));
  there = λ l d. ⊎_elim (same l d) (other l d) (cases_eq l (negated e.lit));
}
  where
    old : (k : ℕ) (d : TrailEntry) → k < length entries → false_place (set places (negated e.lit) (length entries)) (negated (get_or (entries ++ e ∷ []) k d).lit) ≡ k
    old k d b =
        let apart : negated (get_or entries k d).lit ≢ negated e.lit =
        (λ q. let v : var_of (get_or entries k d).lit ≡ var_of e.lit = sym (negated-var (get_or entries k d).lit) ∙ (ap var_of q ∙ negated-var e.lit) in
        false≢true (sym free ∙ list_any_at (λ (x : TrailEntry). nat_eq (var_of e.lit) (var_of x.lit)) entries k d b (eq-eqb (var_of e.lit) (var_of (get_or entries k d).lit) (sym v)))) in
        rw (get_or_append_left entries (e ∷ []) d k b, get_or-set_other places (negated e.lit) (negated (get_or entries k d).lit) (length entries) nowhere apart) (s.placed k d b)

    new : (k : ℕ) (d : TrailEntry) → k < length (entries ++ e ∷ []) → length entries ≤ k → false_place (set places (negated e.lit) (length entries)) (negated (get_or (entries ++ e ∷ []) k d).lit) ≡ k
    new k d h b =
        let last : length entries ≡ k = omega (arith, length_push entries e) in
        rw (get_or_push entries e d k last, get_or-set_same places (negated e.lit) (length entries) nowhere room) last

    same : (l : ℕ) (d : TrailEntry) → l ≡ negated e.lit → (false_place (set places (negated e.lit) (length entries)) l ≡ nowhere) ⊎ ((false_place (set places (negated e.lit) (length entries)) l < length (entries ++ e ∷ [])) × ((get_or (entries ++ e ∷ []) (false_place (set places (negated e.lit) (length entries)) l) d).lit ≡ negated l))
    same l d q = rw (q, get_or-set_same places (negated e.lit) (length entries) nowhere room, get_or_push entries e d (length entries) refl, negated-back e.lit) (inr (omega (arith, length_push entries e), refl))

    other : (l : ℕ) (d : TrailEntry) → (l ≡ negated e.lit → ⊥) → (false_place (set places (negated e.lit) (length entries)) l ≡ nowhere) ⊎ ((false_place (set places (negated e.lit) (length entries)) l < length (entries ++ e ∷ [])) × ((get_or (entries ++ e ∷ []) (false_place (set places (negated e.lit) (length entries)) l) d).lit ≡ negated l))
    other l d q = rw (get_or-set_other places (negated e.lit) l (length entries) nowhere q) (⊎_elim (λ n. inl n) (λ t. inr (omega (arith, t.0, length_push entries e), rw (get_or_append_left entries (e ∷ []) d (false_place places l) t.0) t.1)) (s.there l d))

-- as many places as before
pub cleared-length : (es : List TrailEntry) (places : List ℕ) → length (cleared es places) ≡ length places
cleared-length [] places = refl
cleared-length (e ∷ es) places = cleared-length es (set places (negated e.lit) nowhere) ∙ length-set places (negated e.lit) nowhere

cleared-other : (es : List TrailEntry) (places : List ℕ) (l : ℕ) → list_any (λ (e : TrailEntry). nat_eq l (negated e.lit)) es ≡ false → false_place (cleared es places) l ≡ false_place places l
cleared-other [] places l h = refl
cleared-other (e ∷ es) places l h =
    let apart = or_parts (nat_eq l (negated e.lit)) (list_any (λ (x : TrailEntry). nat_eq l (negated x.lit)) es) h in
    cleared-other es (set places (negated e.lit) nowhere) l apart.1 ∙ get_or-set_other places (negated e.lit) l nowhere nowhere (eqb-false l (negated e.lit) apart.0)

cleared-none : (es : List TrailEntry) (places : List ℕ) (l : ℕ) → l < length places → false_place places l ≡ nowhere → false_place (cleared es places) l ≡ nowhere
cleared-none [] places l b h = h
cleared-none (e ∷ es) places l b h = cleared-none es (set places (negated e.lit) nowhere) l (let k = length-set places (negated e.lit) nowhere in omega arith) (by_case (cases_eq l (negated e.lit)))
  where
    by_case : (l ≡ negated e.lit) ⊎ (l ≡ negated e.lit → ⊥) → false_place (set places (negated e.lit) nowhere) l ≡ nowhere
    by_case (inl q) = rw q (get_or-set_same places (negated e.lit) nowhere nowhere (omega (arith, b, q)))
    by_case (inr q) = get_or-set_other places (negated e.lit) l nowhere nowhere q ∙ h

cleared-here : (es : List TrailEntry) (places : List ℕ) (l : ℕ) → l < length places → list_any (λ (e : TrailEntry). nat_eq l (negated e.lit)) es ≡ true → false_place (cleared es places) l ≡ nowhere
cleared-here [] places l b h = absurd (false≢true h)
cleared-here (e ∷ es) places l b h = by_here (nat_eq l (negated e.lit)) refl (λ m. cleared-here es (set places (negated e.lit) nowhere) l longer m) h
  where
    longer : l < length (set places (negated e.lit) nowhere)
    longer = let k = length-set places (negated e.lit) nowhere in omega arith

    by_here : (x : Bool) → nat_eq l (negated e.lit) ≡ x → (list_any (λ (y : TrailEntry). nat_eq l (negated y.lit)) es ≡ true → false_place (cleared es (set places (negated e.lit) nowhere)) l ≡ nowhere) → (x || list_any (λ (y : TrailEntry). nat_eq l (negated y.lit)) es) ≡ true → false_place (cleared es (set places (negated e.lit) nowhere)) l ≡ nowhere
    by_here true q rest m =
        let same : l ≡ negated e.lit = eqb-true l (negated e.lit) q in
        cleared-none es (set places (negated e.lit) nowhere) l longer (rw same (get_or-set_same places (negated e.lit) nowhere nowhere (omega (arith, b, same))))
    by_here false q rest m = rest m

-- the first entries stand where the others are taken away
pub stand-cut : (places : List ℕ) (n : ℕ) (entries : List TrailEntry) → Stand places entries → n ≤ length entries → ((k : ℕ) (d : TrailEntry) → k < length entries → negated (get_or entries k d).lit < length places) → Stand (cleared (drop n entries) places) (take n entries)
stand-cut places n entries s short room = record {
  placed = λ k d h. stays k d (omega (arith, h, length-take-le n entries short));
  there = λ l d. by_test l d (list_any (λ (e : TrailEntry). nat_eq l (negated e.lit)) (drop n entries)) refl;
}
  where
    none : TrailEntry
    none = record { lit = 2; reason = None; level = 0 }

    behind : (l k : ℕ) → false_place places l ≡ k → k < n → list_any (λ (e : TrailEntry). nat_eq l (negated e.lit)) (drop n entries) ≡ false
    behind l k p b = false_from_ne_true (list_any (λ (e : TrailEntry). nat_eq l (negated e.lit)) (drop n entries)) (λ t.
        let w = witness (λ (e : TrailEntry). nat_eq l (negated e.lit)) (drop n entries) none t in
        let inside : n + w.at < length entries = omega (arith, w.within, length-drop n entries) in
        let is : l ≡ negated (get_or entries (n + w.at) none).lit = eqb-true _ _ (rw (get_or-drop n entries w.at none) at w.passes) in
        let at : false_place places l ≡ n + w.at = ap (false_place places) is ∙ s.placed (n + w.at) none inside in
        omega (arith, p, b, at))

    stays : (k : ℕ) (d : TrailEntry) → k < n → false_place (cleared (drop n entries) places) (negated (get_or (take n entries) k d).lit) ≡ k
    stays k d b =
        let here : false_place places (negated (get_or entries k d).lit) ≡ k = s.placed k d (omega (arith, b, short)) in
        rw (get_or-take n entries k d b) (cleared-other (drop n entries) places (negated (get_or entries k d).lit) (behind (negated (get_or entries k d).lit) k here b) ∙ here)

    front : (l : ℕ) (d : TrailEntry) → list_any (λ (e : TrailEntry). nat_eq l (negated e.lit)) (drop n entries) ≡ false → false_place places l < length entries → (get_or entries (false_place places l) d).lit ≡ negated l → false_place places l < n
    front l d t inside is = ⊎_elim (λ b. b) (λ b.
        let k : ℕ = false_place places l - n in
        let at : n + k ≡ false_place places l = omega (arith, b) in
        let same : (get_or (drop n entries) k d).lit ≡ negated l = ap (λ (e : TrailEntry). e.lit) (get_or-drop n entries k d ∙ ap (λ (i : ℕ). get_or entries i d) at) ∙ is in
        let within : k < length (drop n entries) = omega (arith, inside, b, length-drop n entries) in
        let passes : nat_eq l (negated (get_or (drop n entries) k d).lit) ≡ true = eq-eqb _ _ (sym (ap negated same ∙ negated-back l)) in
        absurd (false≢true (sym t ∙ list_any_at (λ (e : TrailEntry). nat_eq l (negated e.lit)) (drop n entries) k d within passes))) (cases_lt (false_place places l) n)

    by_test : (l : ℕ) (d : TrailEntry) (b : Bool) → list_any (λ (e : TrailEntry). nat_eq l (negated e.lit)) (drop n entries) ≡ b → (false_place (cleared (drop n entries) places) l ≡ nowhere) ⊎ ((false_place (cleared (drop n entries) places) l < length (take n entries)) × ((get_or (take n entries) (false_place (cleared (drop n entries) places) l) d).lit ≡ negated l))
    by_test l d true t =
        let w = witness (λ (e : TrailEntry). nat_eq l (negated e.lit)) (drop n entries) none t in
        let inside : n + w.at < length entries = omega (arith, w.within, length-drop n entries) in
        let is : l ≡ negated (get_or entries (n + w.at) none).lit = eqb-true _ _ (rw (get_or-drop n entries w.at none) at w.passes) in
        inl (cleared-here (drop n entries) places l (omega (arith, is, room (n + w.at) none inside)) t)
    by_test l d false t =
        rw (cleared-other (drop n entries) places l t) (⊎_elim (λ x. inl x) (λ m. let b = front l d t m.0 m.1 in inr (omega (arith, b, length-take-le n entries short), rw (get_or-take n entries (false_place places l) d b) m.1)) (s.there l d))

-- an entry is of a variable where it is one of its two literals
lit-cases : (v l : ℕ) → nat_eq v (var_of l) ≡ (nat_eq l (literal v true) || nat_eq l (literal v false))
lit-cases v l = grind (arith, nat_tests)

or-swap : (a b c d : Bool) → ((a || b) || (c || d)) ≡ ((a || c) || (b || d))
or-swap true b c d = refl
or-swap false true true d = refl
or-swap false true false d = refl
or-swap false false c d = refl

-- a variable has a value where one of its literals is true
pub has-either : (entries : List TrailEntry) (v : ℕ) → has_value entries v ≡ (is_true entries (literal v true) || is_true entries (literal v false))
has-either [] v = refl
has-either (e ∷ es) v = rw (lit-cases v e.lit, has-either es v) (or-swap (nat_eq e.lit (literal v true)) (nat_eq e.lit (literal v false)) (is_true es (literal v true)) (is_true es (literal v false)))

pub none-has : (entries : List TrailEntry) (v : ℕ) → is_true entries (literal v true) ≡ false → is_true entries (literal v false) ≡ false → has_value entries v ≡ false
none-has entries v p n = has-either entries v ∙ rw (p, n) refl

plus-sign : (v l : ℕ) → nat_eq v (var_of l) ≡ true → nat_eq l (literal v false) ≡ false → has_plus l ≡ true
plus-sign v l = grind (arith, nat_tests)

minus-sign : (v l : ℕ) → nat_eq v (var_of l) ≡ true → nat_eq l (literal v true) ≡ false → has_plus l ≡ false
minus-sign v l = grind (arith, nat_tests)

not-lit : (v l : ℕ) (b : Bool) → nat_eq v (var_of l) ≡ false → nat_eq l (literal v b) ≡ false
not-lit v l true = grind (arith, nat_tests)
not-lit v l false = grind (arith, nat_tests)

sign-of : (v l : ℕ) (b : Bool) → nat_eq v (var_of l) ≡ true → nat_eq l (literal v (not b)) ≡ false → has_plus l ≡ b
sign-of v l true = plus-sign v l
sign-of v l false = minus-sign v l

-- the value of a variable is the sign of the one of its literals that is true
pub value-sign : (entries : List TrailEntry) (v : ℕ) (b : Bool) → is_true entries (literal v b) ≡ true → is_true entries (literal v (not b)) ≡ false → value_on entries v ≡ Some b
value-sign [] v b t f = absurd (false≢true t)
value-sign (e ∷ es) v b t f = by_test (nat_eq v (var_of e.lit)) refl (λ h. value-sign es v b (rw (not-lit v e.lit b h) at t) apart.1)
  where
    apart : (nat_eq e.lit (literal v (not b)) ≡ false) × (is_true es (literal v (not b)) ≡ false)
    apart = or_parts (nat_eq e.lit (literal v (not b))) (is_true es (literal v (not b))) f

    by_test : (x : Bool) → nat_eq v (var_of e.lit) ≡ x → (nat_eq v (var_of e.lit) ≡ false → value_on es v ≡ Some b) → option_map (λ (y : TrailEntry). has_plus y.lit) (cond x (Some e) (find (λ (y : TrailEntry). nat_eq v (var_of y.lit)) es)) ≡ Some b
    by_test true h rest = ap (λ (s : Bool). Some s) (sign-of v e.lit b h apart.0)
    by_test false h rest = rest h

find-none : (p : TrailEntry → Bool) (es : List TrailEntry) → list_any p es ≡ false → find p es ≡ None
find-none p [] h = refl
find-none p (e ∷ es) h = by_test (p e) (find-none p es) h
  where
    by_test : (b : Bool) → (list_any p es ≡ false → find p es ≡ None) → (b || list_any p es) ≡ false → cond b (Some e) (find p es) ≡ None
    by_test true rest h = absurd (false≢true (sym h))
    by_test false rest h = rest h

-- a variable of which no entry stands on a trail has no value
pub value-none : (entries : List TrailEntry) (v : ℕ) → has_value entries v ≡ false → value_on entries v ≡ None
value-none entries v h = ap (option_map (λ (e : TrailEntry). has_plus e.lit)) (find-none (λ e. nat_eq v (var_of e.lit)) entries h)

var-literal : (v : ℕ) (b : Bool) → var_of (literal v b) ≡ v
var-literal v true = omega arith
var-literal v false = omega arith

lits-differ : (v : ℕ) → literal v true ≢ literal v false
lits-differ v e = omega arith

-- of the two literals of a variable that stands once, one alone is true
pub not-both : (entries : List TrailEntry) (v : ℕ) → IsDistinct eqb (vars_of entries) → is_true entries (literal v true) ≡ true → is_true entries (literal v false) ≡ false
not-both entries v d t = false_from_ne_true (is_true entries (literal v false)) (λ f.
    let a = witness (λ (e : TrailEntry). nat_eq e.lit (literal v true)) entries none t in
    let b = witness (λ (e : TrailEntry). nat_eq e.lit (literal v false)) entries none f in
    let at_a : (get_or entries a.at none).lit ≡ literal v true = eqb-true _ _ a.passes in
    let at_b : (get_or entries b.at none).lit ≡ literal v false = eqb-true _ _ b.passes in
    let var_a : get_or (vars_of entries) a.at 0 ≡ v = get-var entries a.at a.within ∙ (ap var_of at_a ∙ var-literal v true) in
    let var_b : get_or (vars_of entries) b.at 0 ≡ v = get-var entries b.at b.within ∙ (ap var_of at_b ∙ var-literal v false) in
    let long : length (vars_of entries) ≡ length entries = length-map entries (λ (e : TrailEntry). var_of e.lit) in
    ⊎_elim
    (λ l. false≢true (sym (apart_from_distinct eqb (vars_of entries) a.at b.at 0 d l (omega (arith, b.within, long))) ∙ eq-eqb _ _ (var_a ∙ sym var_b)))
    (λ l. ⊎_elim
    (λ s. lits-differ v (sym at_a ∙ (ap (λ (i : ℕ). (get_or entries i none).lit) s ∙ at_b)))
    (λ n. false≢true (sym (apart_from_distinct eqb (vars_of entries) b.at a.at 0 d (omega (arith, l, n)) (omega (arith, a.within, long))) ∙ eq-eqb _ _ (var_b ∙ sym var_a)))
    (cases_eq a.at b.at))
    (cases_lt a.at b.at))
  where
    none : TrailEntry
    none = record { lit = 2; reason = None; level = 0 }

    get-var : (es : List TrailEntry) (k : ℕ) → k < length es → get_or (vars_of es) k 0 ≡ var_of (get_or es k none).lit
    get-var [] k l = absurd (omega arith)
    get-var (e ∷ es) zero l = refl
    get-var (e ∷ es) (suc k) l = get-var es k (omega arith)

-- the code of the negation of a literal of a variable up to the greatest that there is room for has a place
pub has-place : (most count l : ℕ) → count / 2 - 1 ≡ most → 1 ≤ var_of l → var_of l ≤ most → negated l < count
has-place most count l w low high = let v = negated-var l in omega (arith, v)
