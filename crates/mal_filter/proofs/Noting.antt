use Rattle.std.proofs.Common.{◌≡◌, ℕ, Bool, true, false, ◌||◌, bytes_eq, List, [], ◌∷◌, map, refl, sym, ap, ◌∙◌}
use Rattle.std.proofs.lemmas.Map.Text.{is_eq-slice_cmp}
use Rattle.std.specs.declared.cmp.Ordering.{Ordering}
use Rattle.std.specs.declared.cmp.Ordering.TheVariants.{Less, Equal, Greater}
use Rattle.std.specs.Ordering.{is_eq, match_ordering, nat_cmp}
use Rattle.std.specs.Cmp.Lexicographic.{slice_cmp}
use Rattle.std.specs.FinMap.{slice_cmp-IsAntisymmetric, nat_cmp-IsAntisymmetric}
use Rattle.std.specs.List.{list_any}
use Rattle.std.specs.BTreeSet.{insert_key}
use Rattle.mal_filter.specs.Noted.{is_noted}

-- keys that are compared by their literals
pub noted-compared : {K : Type 0} (f : K → List ℕ) (lits : List ℕ) (ks : List K) → list_any (λ k. is_eq (slice_cmp nat_cmp lits (f k))) ks ≡ is_noted lits (map f ks)
noted-compared f lits [] = refl
noted-compared f lits (k ∷ ks) = rw (is_eq-slice_cmp lits (f k), noted-compared f lits ks) refl

or-twice : (a b : Bool) → (a || (a || b)) ≡ (a || b)
or-twice true b = refl
or-twice false b = refl

or-swap : (a b c : Bool) → (a || (b || c)) ≡ (b || (a || c))
or-swap true true c = refl
or-swap true false c = refl
or-swap false true c = refl
or-swap false false c = refl

-- one key more among them
pub noted-inserted : {K : Type 0} (f : K → List ℕ) (lits : List ℕ) (ks : List K) (k : K) → is_noted lits (map f (insert_key (λ x y. slice_cmp nat_cmp (f x) (f y)) ks k)) ≡ (bytes_eq lits (f k) || is_noted lits (map f ks))
noted-inserted f lits [] k = refl
noted-inserted f lits (x ∷ xs) k = by_order (slice_cmp nat_cmp (f k) (f x)) refl (noted-inserted f lits xs k)
  where
    by_order : (o : Ordering) → slice_cmp nat_cmp (f k) (f x) ≡ o
        → is_noted lits (map f (insert_key (λ a b. slice_cmp nat_cmp (f a) (f b)) xs k)) ≡ (bytes_eq lits (f k) || is_noted lits (map f xs))
        → is_noted lits (map f (match_ordering o (k ∷ x ∷ xs) (x ∷ xs) (x ∷ insert_key (λ a b. slice_cmp nat_cmp (f a) (f b)) xs k))) ≡ (bytes_eq lits (f k) || (bytes_eq lits (f x) || is_noted lits (map f xs)))
    by_order Less h rest = refl
    by_order Equal h rest =
        let same : f k ≡ f x = slice_cmp-IsAntisymmetric nat_cmp-IsAntisymmetric (f k) (f x) h in
        rw same (sym (or-twice (bytes_eq lits (f x)) (is_noted lits (map f xs))))
    by_order Greater h rest = rw rest (or-swap (bytes_eq lits (f x)) (bytes_eq lits (f k)) (is_noted lits (map f xs)))
