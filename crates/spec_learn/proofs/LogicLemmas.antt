use Rattle.std.proofs.Common.{◌≡◌, ℕ, ◌+◌, ◌-◌, ◌/◌, ◌%◌, ◌<◌, Bool, true, false, cond, List, [], ◌∷◌, refl, sym, ap, ◌∙◌, subst, inl, inr, ◌⊎◌, arith}
use Rattle.std.specs.Prelude.{◌==◌, nat_lt, ◌||◌, ◌&&◌}
use Rattle.std.specs.List.{list_any, list_all}
use Rattle.std.proofs.lemmas.Bool.{and_parts, and_from, or_cases, or_parts, lt-ltb, eq-eqb, eqb-true, eqb-false, ne_eqb, ltb-true, false_from_ne_true}
use Rattle.mal_base.specs.Literals.{negated}
use Rattle.mal_base.specs.Clauses.{rises, is_below}
use Rattle.spec_logic.specs.Derivation.{is_true, is_false, left_of, effect_of_lits, effect_of_left}
use Rattle.spec_logic.specs.Derivation.Effect.{Passes, Makes, Conflicts}
use Rattle.spec_learn.specs.Analysis.{put}

-- two negations undo each other
pub negated-negated : (l : ℕ) → negated (negated l) ≡ l
negated-negated l = by_sign (l % 2 == 0) refl
  where
    up : l % 2 ≡ 0 → negated (l + 1) ≡ l
    up e = let odd : ((l + 1) % 2 == 0) ≡ false = ne_eqb ((l + 1) % 2) 0 (λ q. absurd (omega arith)) in rw odd (omega arith)

    down : (l % 2 ≡ 0 → ⊥) → negated (l - 1) ≡ l
    down e = let even : ((l - 1) % 2 == 0) ≡ true = eq-eqb ((l - 1) % 2) 0 (omega arith) in rw even (omega arith)

    by_sign : (b : Bool) → (l % 2 == 0) ≡ b → negated (cond b (l + 1) (l - 1)) ≡ l
    by_sign true q = up (eqb-true (l % 2) 0 q)
    by_sign false q = down (eqb-false (l % 2) 0 q)

-- no literal of a rising rest has the variable before it
above : (x : ℕ) (ls : List ℕ) → rises (x ∷ ls) ≡ true → list_any (λ l. l == x) ls ≡ false
above x [] h = refl
above x (m ∷ ms) h =
    let parts = and_parts (nat_lt (x / 2) (m / 2)) (rises (m ∷ ms)) h in
    let low : x / 2 < m / 2 = ltb-true (x / 2) (m / 2) parts.0 in
    let other : (m == x) ≡ false = ne_eqb m x (λ q. let same : m / 2 ≡ x / 2 = ap (λ (k : ℕ). k / 2) q in absurd (omega arith)) in
    rw other (above x ms (skip x m ms low parts.1))
  where
    skip : (x m : ℕ) (ms : List ℕ) → x / 2 < m / 2 → rises (m ∷ ms) ≡ true → rises (x ∷ ms) ≡ true
    skip x m [] l k = refl
    skip x m (y ∷ ys) l k =
        let parts = and_parts (nat_lt (m / 2) (y / 2)) (rises (y ∷ ys)) k in
        let low : m / 2 < y / 2 = ltb-true (m / 2) (y / 2) parts.0 in
        and_from _ _ (lt-ltb (x / 2) (y / 2) (omega arith)) parts.1

rises-tail : (x : ℕ) (ls : List ℕ) → rises (x ∷ ls) ≡ true → rises ls ≡ true
rises-tail x ls h = (and_parts (is_below x ls) (rises ls) h).1

-- the literals of a clause are this one, or false
abbrev pub AreOthersFalse : List ℕ → ℕ → List ℕ → Type 0
AreOthersFalse trues x lits = list_all (λ l. (l == x) || is_false trues l) lits ≡ true

-- without it, none is left
none-left : (trues : List ℕ) (x : ℕ) (lits : List ℕ) → AreOthersFalse trues x lits → list_any (λ l. l == x) lits ≡ false → left_of trues lits ≡ []
none-left trues x [] h o = refl
none-left trues x (l ∷ ls) h o =
    let parts = and_parts ((l == x) || is_false trues l) (list_all (λ m. (m == x) || is_false trues m) ls) h in
    let outs = or_parts (l == x) (list_any (λ m. m == x) ls) o in
    let fell : is_false trues l ≡ true = rw outs.0 at parts.0 in
    rw fell (none-left trues x ls parts.1 outs.1)

-- with it, it alone is left where it is not false
pub one-left : (trues : List ℕ) (x : ℕ) (lits : List ℕ) → rises lits ≡ true → AreOthersFalse trues x lits → is_false trues x ≡ false → list_any (λ l. l == x) lits ≡ true → left_of trues lits ≡ x ∷ []
one-left trues x [] r h f o = absurd (cc)
one-left trues x (l ∷ ls) r h f o =
    let parts = and_parts ((l == x) || is_false trues l) (list_all (λ m. (m == x) || is_false trues m) ls) h in
    by_same (one-left trues x ls (rises-tail l ls r) parts.1 f) (l == x) refl parts.0 o parts.1
  where
    by_same : (list_any (λ (m : ℕ). m == x) ls ≡ true → left_of trues ls ≡ x ∷ []) → (b : Bool) → (l == x) ≡ b → (b || is_false trues l) ≡ true → (b || list_any (λ (m : ℕ). m == x) ls) ≡ true → AreOthersFalse trues x ls → left_of trues (l ∷ ls) ≡ x ∷ []
    by_same g true q k p rest =
        let same : l ≡ x = eqb-true l x q in
        let alive : is_false trues l ≡ false = ap (is_false trues) same ∙ f in
        let later : list_any (λ (m : ℕ). m == x) ls ≡ false = above x ls (subst (λ (y : ℕ). rises (y ∷ ls) ≡ true) same r) in
        rw (alive, none-left trues x ls rest later, same) refl
    by_same g false q k p rest = rw k (g p)

-- true literals that do not contradict each other
abbrev pub IsConsistentList : List ℕ → Type 0
IsConsistentList trues = (l : ℕ) → is_true trues l ≡ true → is_false trues l ≡ true → ⊥

true-own : (trues : List ℕ) (x : ℕ) (lits : List ℕ) → IsConsistentList trues → AreOthersFalse trues x lits → list_any (is_true trues) lits ≡ true → is_true trues x ≡ true
true-own trues x [] c h t = absurd (cc)
true-own trues x (l ∷ ls) c h t =
    let parts = and_parts ((l == x) || is_false trues l) (list_all (λ m. (m == x) || is_false trues m) ls) h in
    by_place (true-own trues x ls c parts.1) (or_cases (is_true trues l) (list_any (is_true trues) ls) t) (or_cases (l == x) (is_false trues l) parts.0)
  where
    by_place : (list_any (is_true trues) ls ≡ true → is_true trues x ≡ true) → (is_true trues l ≡ true) ⊎ (list_any (is_true trues) ls ≡ true) → ((l == x) ≡ true) ⊎ (is_false trues l ≡ true) → is_true trues x ≡ true
    by_place g (inl a) (inl b) = subst (λ (y : ℕ). is_true trues y ≡ true) (eqb-true l x b) a
    by_place g (inl a) (inr b) = absurd (c l a b)
    by_place g (inr a) b = g a

-- a reason makes its literal true, or changes nothing where it is true
pub reason-effect : (trues : List ℕ) (x : ℕ) (lits : List ℕ) → IsConsistentList trues → rises lits ≡ true → AreOthersFalse trues x lits → is_false trues x ≡ false → list_any (λ l. l == x) lits ≡ true → (effect_of_lits trues lits ≡ Makes x) ⊎ ((effect_of_lits trues lits ≡ Passes) × (is_true trues x ≡ true))
reason-effect trues x lits c r h f o = by_true (list_any (is_true trues) lits) refl
  where
    by_true : (b : Bool) → list_any (is_true trues) lits ≡ b → (cond b Passes (effect_of_left (left_of trues lits)) ≡ Makes x) ⊎ ((cond b Passes (effect_of_left (left_of trues lits)) ≡ Passes) × (is_true trues x ≡ true))
    by_true true q = inr (refl, true-own trues x lits c h q)
    by_true false q = inl (ap effect_of_left (one-left trues x lits r h f o))

-- a clause whose literals are false ends the propagation
all-left : (trues lits : List ℕ) → list_all (is_false trues) lits ≡ true → left_of trues lits ≡ []
all-left trues [] h = refl
all-left trues (l ∷ ls) h = let parts = and_parts (is_false trues l) (list_all (is_false trues) ls) h in rw parts.0 (all-left trues ls parts.1)

none-true : (trues lits : List ℕ) → IsConsistentList trues → list_all (is_false trues) lits ≡ true → list_any (is_true trues) lits ≡ false
none-true trues [] c h = refl
none-true trues (l ∷ ls) c h =
    let parts = and_parts (is_false trues l) (list_all (is_false trues) ls) h in
    let no_true : is_true trues l ≡ false = false_from_ne_true (is_true trues l) (λ q. c l q parts.0) in
    rw no_true (none-true trues ls c parts.1)

pub conflict-effect : (trues lits : List ℕ) → IsConsistentList trues → list_all (is_false trues) lits ≡ true → effect_of_lits trues lits ≡ Conflicts
conflict-effect trues lits c h = rw (none-true trues lits c h) (ap effect_of_left (all-left trues lits h))

-- of two that do not hold both, the one does not hold where the other does
pub not-both : (x b : Bool) → (x && b) ≡ false → b ≡ true → x ≡ false
not-both true b h q = sym q ∙ h
not-both false b h q = refl

-- a literal that was put among others passes a test as one more of them
pub put-any : (f : ℕ → Bool) (l : ℕ) (ms : List ℕ) → list_any f (put l ms) ≡ (f l || list_any f ms)
put-any f l [] = refl
put-any f l (m ∷ ms) = by_less (put-any f l ms) (nat_lt l m)
  where
    turn : (a b c : Bool) → (a || (b || c)) ≡ (b || (a || c))
    turn true true c = refl
    turn true false c = refl
    turn false true c = refl
    turn false false c = refl

    by_less : list_any f (put l ms) ≡ (f l || list_any f ms) → (b : Bool) → list_any f (cond b (l ∷ (m ∷ ms)) (m ∷ put l ms)) ≡ (f l || (f m || list_any f ms))
    by_less h true = refl
    by_less h false = ap (λ (b : Bool). f m || b) h ∙ turn (f m) (f l) (list_any f ms)
