use Rattle.std.proofs.Common.{◌≡◌, ℕ, ◌+◌, ◌<◌, ◌≤◌, Bool, true, false, cond, not, List, [], ◌∷◌, zero, suc, length, take, drop, get_or, Some, None, is_some, refl, sym, ap, ◌∙◌}
use Rattle.std.specs.Prelude.{find, ◌||◌, ◌&&◌, option_map, ◌==◌}
use Rattle.std.specs.List.{list_all}
use Rattle.std.proofs.lemmas.List.{drop_more, drop_all, take_more}
use Rattle.std.proofs.lemmas.List.Folds.{list_all-append}
use Rattle.mal_base.specs.Trails.{value_on}
use Rattle.mal_base.specs.Literals.{var_of, has_plus}
use Rattle.mal_base.specs.declared.trail_entry.TrailEntry.{TrailEntry}
use Rattle.spec_node.specs.Value.{has_value}
use Rattle.spec_node.specs.Value.{first_free}

-- a variable has a value exactly where one is shown
value-shown : (trail : List TrailEntry) (v : ℕ) → is_some (value_on trail v) ≡ has_value trail v
value-shown [] v = refl
value-shown (e ∷ es) v = by_here (value-shown es v) (v == var_of e.lit)
  where
    by_here : is_some (value_on es v) ≡ has_value es v → (b : Bool) → is_some (option_map (λ (x : TrailEntry). has_plus x.lit) (cond b (Some e) (find (λ x. v == var_of x.lit) es))) ≡ (b || has_value es v)
    by_here f true = refl
    by_here f false = f

pub free-here : (trail : List TrailEntry) (list : List ℕ) (place v : ℕ) → place < length list → v ≡ get_or list place 0 → value_on trail v ≡ None → first_free trail (drop place list) ≡ Some v
free-here trail list place v l q k =
    let free : has_value trail v ≡ false = sym (value-shown trail v) ∙ ap is_some k in
    rw (drop_more list place 0 l, ← q, free) refl

pub free-ends : (trail : List TrailEntry) (list : List ℕ) (place : ℕ) → length list ≤ place → first_free trail (drop place list) ≡ None
free-ends trail list place l = rw (drop_all place list l) refl

-- where the first elements pass a test, the first that does not stands after them
pub find-passed : (test : ℕ → Bool) (list : List ℕ) (p : ℕ) → list_all test (take p list) ≡ true → find (λ x. not (test x)) list ≡ find (λ x. not (test x)) (drop p list)
find-passed test list zero h = refl
find-passed test [] (suc p) h = refl
find-passed test (v ∷ vs) (suc p) h = by_here (test v) h (find-passed test vs p)
  where
    by_here : (b : Bool) → (b && list_all test (take p vs)) ≡ true → (list_all test (take p vs) ≡ true → find (λ x. not (test x)) vs ≡ find (λ x. not (test x)) (drop p vs)) → cond (not b) (Some v) (find (λ x. not (test x)) vs) ≡ find (λ x. not (test x)) (drop p vs)
    by_here true k f = f k
    by_here false k f = absurd (cc)

-- one variable with a value more
pub passed-more : (trail : List TrailEntry) (list : List ℕ) (p v : ℕ) (b : Bool) → p < length list → v ≡ get_or list p 0 → value_on trail v ≡ Some b → list_all (has_value trail) (take p list) ≡ true → list_all (has_value trail) (take (p + 1) list) ≡ true
passed-more trail list p v b l q k h =
    let valued : has_value trail v ≡ true = sym (value-shown trail v) ∙ ap is_some k in
    rw (take_more list p 0 l, ← q, list_all-append, h, valued) refl
