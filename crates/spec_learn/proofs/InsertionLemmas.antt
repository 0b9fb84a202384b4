use Rattle.std.proofs.Common.{◌≡◌, ◌+◌, Bool, true, false, cond, List, [], ◌∷◌, length, refl, arith}
use Rattle.std.specs.Prelude.{All}
use Rattle.std.proofs.lemmas.List.Elements.{All-cons, All-head, All-tail}
use Rattle.spec_learn.specs.Insertion.{put_by}

module _ {A : Type 0} (before : A → A → Bool) where
  -- what holds of a value and of others holds of all where it is put
  pub put-All : (P : A → Type 0) (x : A) (ys : List A) → P x → All P ys → All P (put_by before x ys)
  put-All P x [] p h = All-cons P x [] p h
  put-All P x (y ∷ ys) p h = by_order (put-All P x ys p (All-tail P y ys h)) (before x y)
    where
      by_order : All P (put_by before x ys) → (b : Bool) → All P (cond b (x ∷ (y ∷ ys)) (y ∷ put_by before x ys))
      by_order f true = All-cons P x (y ∷ ys) p h
      by_order f false = All-cons P y (put_by before x ys) (All-head P y ys h) f

  -- they are one more
  pub length-put : (x : A) (ys : List A) → length (put_by before x ys) ≡ length ys + 1
  length-put x [] = refl
  length-put x (y ∷ ys) = by_order (length-put x ys) (before x y)
    where
      by_order : length (put_by before x ys) ≡ length ys + 1 → (b : Bool) → length (cond b (x ∷ (y ∷ ys)) (y ∷ put_by before x ys)) ≡ length (y ∷ ys) + 1
      by_order f true = omega arith
      by_order f false = omega arith
