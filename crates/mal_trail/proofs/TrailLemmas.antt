use Rattle.std.proofs.Common.{◌≡◌, ℕ, ◌+◌, ◌<◌, ◌≤◌, Bool, true, false, ◌||◌, eqb, nat_eq, List, [], ◌∷◌, ◌++◌, length, get_or, refl, sym, ap, ◌∙◌, arith, inl, inr, ⊎_elim, ◌⊎◌, rules}
use Rattle.std.specs.List.{list_any, IsDistinct}
use Rattle.std.proofs.lemmas.Cmp.{nat_eq_equiv}
use Rattle.std.proofs.lemmas.Bool.{false≢true, false_from_ne_true, or_cases, or_parts, eqb-true}
use Rattle.std.proofs.lemmas.Bool.Decides.{nat_tests}
use Rattle.std.proofs.lemmas.List.{map-append, length_push, length-map}
use Rattle.std.proofs.lemmas.List.Folds.{list_any-append, list_any_at}
use Rattle.std.proofs.lemmas.Map.Keys.{IsDistinct-push}
use Rattle.std.proofs.lemmas.Map.Steps.{length-le_from_distinct_below}
use Rattle.mal_base.specs.Literals.{var_of, negated}
use Rattle.mal_base.specs.declared.trail_entry.TrailEntry.{TrailEntry}
use Rattle.spec_node.specs.Value.{is_true, is_false, has_value, level_of, vars_of}
use Rattle.mal_trail.specs.Trailed.{Fits}
use Rattle.mal_trail.proofs.LevelLemmas.{rise-push}

-- a literal that is neither another one nor its negation has another variable
pub apart : (l m : ℕ) → nat_eq m l ≡ false → nat_eq m (negated l) ≡ false → nat_eq (var_of l) (var_of m) ≡ false
apart l m = grind (arith, nat_tests)

-- a literal that is neither true nor false has a variable without a value
pub free_from_open : (trail : List TrailEntry) (l : ℕ) → is_true trail l ≡ false → is_false trail l ≡ false → has_value trail (var_of l) ≡ false
free_from_open [] l t f = refl
free_from_open (e ∷ es) l t f =
    let a = or_parts (nat_eq e.lit l) (is_true es l) t in
    let b = or_parts (nat_eq e.lit (negated l)) (is_false es l) f in
    rw (apart l e.lit a.0 b.0) (free_from_open es l a.1 b.1)

-- whether a variable has a value is whether it is among the trail's variables
pub has_value-vars : (trail : List TrailEntry) (v : ℕ) → list_any (eqb v) (vars_of trail) ≡ has_value trail v
has_value-vars [] v = refl
has_value-vars (e ∷ es) v = ap (λ (b : Bool). nat_eq v (var_of e.lit) || b) (has_value-vars es v)

-- a member of a list with one more element
pub any_push : (xs : List ℕ) (y q : ℕ) → list_any (eqb q) (xs ++ y ∷ []) ≡ true → (list_any (eqb q) xs ≡ true) ⊎ (q ≡ y)
any_push xs y q h =
    ⊎_elim (λ e. inl e) (λ e. ⊎_elim (λ k. inr (eqb-true q y k)) (λ k. absurd (false≢true k)) (or_cases (eqb q y) false e)) (or_cases (list_any (eqb q) xs) (list_any (eqb q) (y ∷ [])) (sym (list_any-append (eqb q) xs (y ∷ [])) ∙ h))

-- distinct numbers from 1 to n are at most n
pub length_within : (xs : List ℕ) (n : ℕ) → IsDistinct eqb xs → ((v : ℕ) → list_any (eqb v) xs ≡ true → (1 ≤ v) × (v ≤ n)) → length xs ≤ n
length_within xs n d w =
    let no_zero : list_any (eqb 0) xs ≡ false = false_from_ne_true (list_any (eqb 0) xs) (λ h. omega (arith, (w 0 h).0)) in
    let below : (q : ℕ) → list_any (eqb q) (xs ++ 0 ∷ []) ≡ true → q < n + 1 = λ q h. ⊎_elim (λ e. omega (arith, (w q e).1)) (λ e. omega arith) (any_push xs 0 q h) in
    omega (arith, length-le_from_distinct_below (xs ++ 0 ∷ []) (n + 1) (IsDistinct-push nat_eq_equiv xs 0 d no_zero) below, length_push xs 0)

-- a trail is no longer than its room
pub length_fits : (n : ℕ) (trail : List TrailEntry) → Fits n trail → length trail ≤ n
length_fits n trail f =
    let k = length_within (vars_of trail) n f.distinct f.within in
    omega (arith, k, length-map trail (λ (e : TrailEntry). var_of e.lit))

pub vars_push : (trail : List TrailEntry) (e : TrailEntry) → vars_of (trail ++ e ∷ []) ≡ vars_of trail ++ var_of e.lit ∷ []
vars_push trail e = map-append (λ (e : TrailEntry). var_of e.lit) trail (e ∷ [])

distinct_push : (n : ℕ) (trail : List TrailEntry) (v : ℕ) → Fits n trail → has_value trail v ≡ false → IsDistinct eqb (vars_of trail ++ v ∷ [])
distinct_push n trail v f h = IsDistinct-push nat_eq_equiv (vars_of trail) v f.distinct (has_value-vars trail v ∙ h)

within_push : (n : ℕ) (trail : List TrailEntry) (v : ℕ) → Fits n trail → 1 ≤ v → v ≤ n → (q : ℕ) → list_any (eqb q) (vars_of trail ++ v ∷ []) ≡ true → (1 ≤ q) × (q ≤ n)
within_push n trail v f low high q h =
    ⊎_elim (λ e. f.within q e) (λ e. (omega arith, omega arith)) (any_push (vars_of trail) v q h)

-- where a variable has no value there is room for an entry
pub room_for : (n : ℕ) (trail : List TrailEntry) (v : ℕ) → Fits n trail → has_value trail v ≡ false → 1 ≤ v → v ≤ n → length trail < n
room_for n trail v f h low high =
    let k = length_within (vars_of trail ++ v ∷ []) n (distinct_push n trail v f h) (within_push n trail v f low high) in
    omega (arith, k, length_push (vars_of trail) v, length-map trail (λ (e : TrailEntry). var_of e.lit))

-- a trail fits with one more entry, of a variable without a value
pub Fits-push : (n : ℕ) (trail : List TrailEntry) (e : TrailEntry) → Fits n trail → has_value trail (var_of e.lit) ≡ false → 1 ≤ var_of e.lit → var_of e.lit ≤ n → level_of trail ≤ e.level → e.level ≤ level_of trail + 1 → Fits n (trail ++ e ∷ [])
Fits-push n trail e f h low high l m =
    record {
      small = f.small;
      distinct = rw (vars_push trail e) (distinct_push n trail (var_of e.lit) f h);
      within = rw (vars_push trail e) (within_push n trail (var_of e.lit) f low high);
      levels = rise-push trail e f.levels l m;
    }

pub Fits-none : Fits 0 []
unfolding IsDistinct
Fits-none = record { small = omega arith; distinct = search rules; within = λ v h. absurd (false≢true h); levels = tt }

-- the variable of an entry is one that there is room for
pub var-at : (n : ℕ) (trail : List TrailEntry) (k : ℕ) (e : TrailEntry) → Fits n trail → k < length trail → e ≡ get_or trail k e → (1 ≤ var_of e.lit) × (var_of e.lit ≤ n)
var-at n trail k e f l is = f.within (var_of e.lit) (has_value-vars trail (var_of e.lit) ∙ rw (list_any_at (λ (x : TrailEntry). nat_eq (var_of e.lit) (var_of x.lit)) trail k e l (rw (← is) (same (var_of e.lit)))) refl)
  where
    same : (v : ℕ) → nat_eq v v ≡ true
    same v = grind (arith, nat_tests)
