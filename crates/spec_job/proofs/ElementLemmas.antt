-- Elements of lists that others stand after.
use Rattle.std.proofs.Common.{◌≡◌, ℕ, zero, suc, ◌≤◌, List, [], ◌∷◌, ◌++◌, length, replicate, Some, inl, inr, ◌⊎◌, refl, ap, arith}
use Rattle.std.specs.Prelude.{slice_get}

-- an element of a list with one more: the new one, or one of those before
pub get-push : {X : Type 0} (xs : List X) (x y : X) (r : ℕ) → slice_get (xs ++ x ∷ []) r ≡ Some y → ((r ≡ length xs) × (x ≡ y)) ⊎ (slice_get xs r ≡ Some y)
get-push [] x y zero e = inl (refl, (cc))
get-push [] x y (suc r) e = absurd (cc)
get-push (z ∷ zs) x y zero e = inr e
get-push {X} (z ∷ zs) x y (suc r) e = by_place (get-push zs x y r e)
  where
    by_place : ((r ≡ length zs) × (x ≡ y)) ⊎ (slice_get zs r ≡ Some y) → ((suc r ≡ suc (length zs)) × (x ≡ y)) ⊎ (slice_get zs r ≡ Some y)
    by_place (inl k) = inl (ap (λ (n : ℕ). suc n) k.0, k.1)
    by_place (inr k) = inr k

-- a list after which one element stands several times: that element, after the list, or one of those before
pub get-repeated : {X : Type 0} (xs : List X) (n : ℕ) (x y : X) (r : ℕ) → slice_get (xs ++ replicate n x) r ≡ Some y → ((length xs ≤ r) × (x ≡ y)) ⊎ (slice_get xs r ≡ Some y)
get-repeated [] zero x y r e = inr e
get-repeated [] (suc n) x y zero e = inl (omega arith, (cc))
get-repeated {X} [] (suc n) x y (suc r) e = by_rest (get-repeated [] n x y r e)
  where
    by_rest : ((0 ≤ r) × (x ≡ y)) ⊎ (slice_get [] r ≡ Some y) → ((0 ≤ suc r) × (x ≡ y)) ⊎ (slice_get [] (suc r) ≡ Some y)
    by_rest (inl k) = inl (omega arith, k.1)
    by_rest (inr k) = absurd (cc)
get-repeated (z ∷ zs) n x y zero e = inr e
get-repeated {X} (z ∷ zs) n x y (suc r) e = by_rest (get-repeated zs n x y r e)
  where
    by_rest : ((length zs ≤ r) × (x ≡ y)) ⊎ (slice_get zs r ≡ Some y) → ((suc (length zs) ≤ suc r) × (x ≡ y)) ⊎ (slice_get zs r ≡ Some y)
    by_rest (inl k) = let low : length zs ≤ r = k.0 in inl (omega arith, k.1)
    by_rest (inr k) = inr k

-- a longer list has the elements of its front
pub get-front : {X : Type 0} (xs ys : List X) (r : ℕ) (x : X) → slice_get xs r ≡ Some x → slice_get (xs ++ ys) r ≡ Some x
get-front [] ys r x e = absurd (cc)
get-front (z ∷ zs) ys zero x e = e
get-front (z ∷ zs) ys (suc r) x e = get-front zs ys r x e
