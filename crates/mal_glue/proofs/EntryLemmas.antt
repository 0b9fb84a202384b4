-- Where the entry of a variable stands on a trail.
use Rattle.std.proofs.Common.{◌≡◌, ◌≢◌, ℕ, zero, suc, ◌+◌, ◌-◌, ◌*◌, ◌%◌, ◌≤◌, ◌<◌, Bool, true, false, nat_lt, nat_eq, List, [], ◌∷◌, length, take, Option, Some, None, refl, sym, ap, ◌∙◌, arith}
use Rattle.std.specs.Prelude.{All, slice_get, find, ◌==◌, ◌||◌, min}
use Rattle.std.specs.List.{list_any}
use Rattle.std.proofs.lemmas.Bool.{eq-eqb, ne_eqb}
use Rattle.std.proofs.lemmas.Bool.Decides.{nat_tests}
use Rattle.mal_base.specs.Literals.{var_of, literal, negated}
use Rattle.mal_base.specs.declared.trail_entry.TrailEntry.{TrailEntry}
use Rattle.std.specs.Option.{option_map_or}
use Rattle.spec_node.specs.Sound.{level_in}
use Rattle.spec_node.proofs.FindLemmas.{find-All}
use Rattle.spec_node.specs.Value.{is_true, is_false, has_value}

below-suc : (a b : ℕ) → nat_lt (suc a) (suc b) ≡ nat_lt a b
below-suc a b = grind (arith, nat_tests)

none-below-one : (a : ℕ) → nat_lt (suc a) 1 ≡ false
none-below-one a = grind (arith, nat_tests)

-- where a test holds of one of the first elements exactly where they are more than so many, the first of which it holds
-- stands there
pub found-at : {X : Type 0} (p : X → Bool) (xs : List X) (place : ℕ) → ((n : ℕ) → n ≤ length xs → list_any p (take n xs) ≡ nat_lt place n) → slice_get xs place ≡ find p xs
found-at p [] place h = refl
found-at {X} p (x ∷ xs) zero h = by_test (p x) refl
  where
    by_test : (b : Bool) → p x ≡ b → slice_get (x ∷ xs) zero ≡ find p (x ∷ xs)
    by_test true t = rw t refl
    by_test false t =
        let one : (p x || false) ≡ true = h 1 (omega arith) in
        let bad : false ≡ true = rw t at one in
        absurd (cc)
found-at {X} p (x ∷ xs) (suc place) h = by_test (p x) refl (λ f. found-at p xs place f)
  where
    by_test : (b : Bool) → p x ≡ b → (((n : ℕ) → n ≤ length xs → list_any p (take n xs) ≡ nat_lt place n) → slice_get xs place ≡ find p xs) → slice_get (x ∷ xs) (suc place) ≡ find p (x ∷ xs)
    by_test true t f =
        let one : (p x || false) ≡ false = h 1 (omega arith) ∙ none-below-one place in
        let bad : true ≡ false = rw t at one in
        absurd (cc)
    by_test false t f = rw t (f (λ n l. let more : (p x || list_any p (take n xs)) ≡ nat_lt place n = h (suc n) (omega arith) ∙ below-suc place n in rw t at more))

either : (v l : ℕ) → nat_eq v (var_of l) ≡ (nat_eq l (literal v false) || nat_eq l (literal v true))
either v l = grind (arith, nat_tests)

turned : (a b c d : Bool) → ((a || b) || (c || d)) ≡ ((a || c) || (b || d))
turned true b c d = refl
turned false true true d = refl
turned false true false d = refl
turned false false c d = refl

-- a variable has a value where one of its literals is true
true-either : (es : List TrailEntry) (v : ℕ) → has_value es v ≡ (is_true es (literal v false) || is_true es (literal v true))
true-either [] v = refl
true-either (e ∷ es) v = rw (either v e.lit, true-either es v) (turned (nat_eq e.lit (literal v false)) (nat_eq e.lit (literal v true)) (is_true es (literal v false)) (is_true es (literal v true)))

not-plus : (v : ℕ) → negated (literal v true) ≡ literal v false
not-plus v = let even : (2 * v) % 2 ≡ 0 = omega arith in rw (eq-eqb ((2 * v) % 2) 0 even) refl

not-minus : (v : ℕ) → negated (literal v false) ≡ literal v true
not-minus v =
    let odd : (2 * v + 1) % 2 ≢ 0 = λ e. absurd (omega (arith, e)) in
    let same : 2 * v + 1 - 1 ≡ 2 * v = omega arith in
    rw (ne_eqb ((2 * v + 1) % 2) 0 odd) same

least-below : (a b n : ℕ) → (nat_lt a n || nat_lt b n) ≡ nat_lt (min a b) n
least-below a b n = grind (arith, nat_tests)

-- where both literals of a variable are open until some place, its entry stands at the lesser one
pub entry-at : (es : List TrailEntry) (v a b place : ℕ) → ((n : ℕ) → n ≤ length es → is_false (take n es) (literal v true) ≡ nat_lt a n) → ((n : ℕ) → n ≤ length es → is_false (take n es) (literal v false) ≡ nat_lt b n) → place ≡ min a b → slice_get es place ≡ find (λ e. v == var_of e.lit) es
entry-at es v a b place p q is = found-at (λ e. v == var_of e.lit) es place (λ n l.
    let plus : is_true (take n es) (literal v false) ≡ nat_lt a n = ap (is_true (take n es)) (sym (not-plus v)) ∙ p n l in
    let minus : is_true (take n es) (literal v true) ≡ nat_lt b n = ap (is_true (take n es)) (sym (not-minus v)) ∙ q n l in
    true-either (take n es) v ∙ rw (plus, minus, is) (least-below a b n))

-- beyond the end nothing stands
pub none-past : {X : Type 0} (xs : List X) (place : ℕ) → length xs ≤ place → slice_get xs place ≡ None
none-past [] place l = refl
none-past (x ∷ xs) zero l = absurd (omega arith)
none-past (x ∷ xs) (suc place) l = none-past xs place (omega arith)

-- no variable has a level that there is no room for
pub level-below : (es : List TrailEntry) (v room : ℕ) → 1 ≤ room → All (λ e. e.level < room) es → level_in es v < room
level-below es v room some h = by_found (find (λ e. v == var_of e.lit) es) refl
  where
    by_found : (o : Option TrailEntry) → find (λ e. v == var_of e.lit) es ≡ o → option_map_or (λ e. e.level) o 0 < room
    by_found None q = omega arith
    by_found (Some e) q = find-All (λ d. d.level < room) (λ d. v == var_of d.lit) es e h q
