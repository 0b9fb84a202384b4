-- The tenants of jobs are no more than any names that hold them all.
use Rattle.std.proofs.Common.{◌≡◌, ℕ, ◌≤◌, Bool, true, false, cond, ◌||◌, List, [], ◌∷◌, ◌++◌, length, fold, refl, sym, ap, ◌∙◌, ◌⊎◌, inl, inr}
use Rattle.std.specs.Cmp.{IsEquivalence}
use Rattle.std.specs.List.{AllByRecursion, IsDistinct, list_any}
use Rattle.std.specs.Str.{bytes_eq}
use Rattle.std.proofs.lemmas.Slice.Eq.{bytes_eq-Decides}
use Rattle.std.proofs.lemmas.List.Folds.{list_any-append}
use Rattle.std.proofs.lemmas.Map.Keys.{IsDistinct-push}
use Rattle.std.proofs.lemmas.Map.Made.{length-le_from_is_member}
use Rattle.spec_script.specs.Script.{ScriptedJob}
use Rattle.spec_script.specs.Formed.{with_name, tenants_of}
use Rattle.spec_script.proofs.Inversions.{same_bytes}

bytes_symm : (x y : List ℕ) (a b : Bool) → bytes_eq x y ≡ a → bytes_eq y x ≡ b → a ≡ b
bytes_symm x y true true e f = refl
bytes_symm x y false false e f = refl
bytes_symm x y true false e f = let s : x ≡ y = same_bytes x y e in let t : bytes_eq y x ≡ true = (bytes_eq-Decides y x).1 (sym s) in absurd (cc)
bytes_symm x y false true e f = let s : y ≡ x = same_bytes y x f in let t : bytes_eq x y ≡ true = (bytes_eq-Decides x y).1 (sym s) in absurd (cc)

bytes-equivalence : IsEquivalence bytes_eq
bytes-equivalence = record {
  refl = λ x. (bytes_eq-Decides x x).1 refl;
  symm = λ x y. bytes_symm x y (bytes_eq x y) (bytes_eq y x) refl refl;
  congr = λ x y z e. ap (λ (w : List ℕ). bytes_eq w z) (same_bytes x y e);
}

-- names that are among these
abbrev Among : List (List ℕ) → List (List ℕ) → Type 0
Among names all = (q : List ℕ) → list_any (bytes_eq q) names ≡ true → list_any (bytes_eq q) all ≡ true

or-cases : (a b : Bool) → (a || b) ≡ true → (a ≡ true) ⊎ (b ≡ true)
or-cases true b h = inl refl
or-cases false b h = inr h

either-way : (a b : Bool) → (a ≡ true) ⊎ (b ≡ true) → (a || b) ≡ true
either-way true b h = refl
either-way false b (inl h) = absurd (cc)
either-way false b (inr h) = h

among-more : (names all : List (List ℕ)) (name : List ℕ) → Among names all → list_any (bytes_eq name) all ≡ true → Among (names ++ name ∷ []) all
among-more names all name h has q e =
    by_cases (or-cases (list_any (bytes_eq q) names) (list_any (bytes_eq q) (name ∷ [])) (sym (list_any-append (bytes_eq q) names (name ∷ [])) ∙ e))
  where
    one : (bytes_eq q name || false) ≡ true → list_any (bytes_eq q) all ≡ true
    one f = by_end (or-cases (bytes_eq q name) false f)
      where
        by_end : (bytes_eq q name ≡ true) ⊎ (false ≡ true) → list_any (bytes_eq q) all ≡ true
        by_end (inl g) = ap (λ (w : List ℕ). list_any (bytes_eq w) all) (same_bytes q name g) ∙ has
        by_end (inr g) = absurd (cc)

    by_cases : (list_any (bytes_eq q) names ≡ true) ⊎ (list_any (bytes_eq q) (name ∷ []) ≡ true) → list_any (bytes_eq q) all ≡ true
    by_cases (inl f) = h q f
    by_cases (inr f) = one f

-- names that are apart and among these, and stay so with one more
record Kept (names all : List (List ℕ)) : Type 0 where
  apart : IsDistinct bytes_eq names
  among : Among names all

keep-more : (names all : List (List ℕ)) (name : List ℕ) → Kept names all → list_any (bytes_eq name) all ≡ true → Kept (with_name names name) all
keep-more names all name is has = by_test (list_any (bytes_eq name) names) refl
  where
    by_test : (b : Bool) → list_any (bytes_eq name) names ≡ b → Kept (cond b names (names ++ name ∷ [])) all
    by_test true e = is
    by_test false e = record { apart = IsDistinct-push bytes-equivalence names name is.apart e; among = among-more names all name is.among has }

-- the jobs' tenants are among these names
abbrev pub AreNamed : List (List ℕ) → List ScriptedJob → Type 0
AreNamed all jobs = AllByRecursion (λ j. list_any (bytes_eq j.tenant) all ≡ true) jobs

keep-all : (jobs : List ScriptedJob) (names all : List (List ℕ)) → Kept names all → AreNamed all jobs → Kept (fold (λ names j. with_name names j.tenant) names jobs) all
keep-all [] names all is h = is
keep-all (j ∷ js) names all is h = keep-all js (with_name names j.tenant) all (keep-more names all j.tenant is h.0) h.1

none-kept : (all : List (List ℕ)) → Kept [] all
unfolding IsDistinct
none-kept all = record { apart = tt; among = λ q e. absurd (cc) }

pub tenants-few : (jobs : List ScriptedJob) (all : List (List ℕ)) → AreNamed all jobs → length (tenants_of jobs) ≤ length all
tenants-few jobs all h = let is = keep-all jobs [] all (none-kept all) h in length-le_from_is_member bytes-equivalence (tenants_of jobs) all is.apart is.among

-- a name is among names and itself
pub named-last : (names : List (List ℕ)) (name : List ℕ) → list_any (bytes_eq name) (names ++ name ∷ []) ≡ true
named-last names name =
    let own : list_any (bytes_eq name) (name ∷ []) ≡ true = either-way (bytes_eq name name) false (inl ((bytes_eq-Decides name name).1 refl)) in
    list_any-append (bytes_eq name) names (name ∷ []) ∙ either-way (list_any (bytes_eq name) names) (list_any (bytes_eq name) (name ∷ [])) (inr own)

pub named-more : (names : List (List ℕ)) (name : List ℕ) (jobs : List ScriptedJob) → AreNamed names jobs → AreNamed (names ++ name ∷ []) jobs
named-more names name [] h = tt
named-more names name (j ∷ js) h = (list_any-append (bytes_eq j.tenant) names (name ∷ []) ∙ either-way _ _ (inl h.0), named-more names name js h.1)

pub all-named : (names : List (List ℕ)) (jobs : List ScriptedJob) (j : ScriptedJob) → AreNamed names jobs → list_any (bytes_eq j.tenant) names ≡ true → AreNamed names (jobs ++ j ∷ [])
all-named names [] j h own = (own, tt)
all-named names (i ∷ js) j h own = (h.0, all-named names js j h.1 own)
