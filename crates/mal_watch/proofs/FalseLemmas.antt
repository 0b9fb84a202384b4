use Rattle.std.proofs.Common.{◌≡◌, ℕ, zero, suc, ◌<◌, ◌≤◌, Bool, true, false, ◌||◌, List, [], ◌∷◌, take, refl, sym, ◌∙◌, arith}
use Rattle.std.specs.Prelude.{nat_eq, nat_lt, min}
use Rattle.std.proofs.lemmas.Bool.{false≢true, ltb-true, ltb-false}
use Rattle.std.proofs.lemmas.Bool.Decides.{nat_tests}
use Rattle.mal_base.specs.Literals.{negated}
use Rattle.mal_base.specs.declared.trail_entry.TrailEntry.{TrailEntry}
use Rattle.spec_node.specs.Value.{is_true, is_false}

-- what is true under the first entries is so under more of them
pub true-more : (n m : ℕ) (es : List TrailEntry) (l : ℕ) → n ≤ m → is_true (take n es) l ≡ true → is_true (take m es) l ≡ true
true-more zero m es l h t = absurd (false≢true t)
true-more (suc n) zero es l h t = absurd (omega arith)
true-more (suc n) (suc m) [] l h t = t
true-more (suc n) (suc m) (e ∷ es) l h t = by_here (nat_eq e.lit l) (true-more n m es l (omega arith)) t
  where
    by_here : (b : Bool) → (is_true (take n es) l ≡ true → is_true (take m es) l ≡ true) → (b || is_true (take n es) l) ≡ true → (b || is_true (take m es) l) ≡ true
    by_here true rest h = refl
    by_here false rest h = rest h

pub false-more : (n m : ℕ) (es : List TrailEntry) (l : ℕ) → n ≤ m → is_false (take n es) l ≡ true → is_false (take m es) l ≡ true
false-more n m es l h t = true-more n m es (negated l) h t

-- what is not false under more entries is not false under the first of them
pub open-less : (n m : ℕ) (es : List TrailEntry) (l : ℕ) → n ≤ m → is_false (take m es) l ≡ false → is_false (take n es) l ≡ false
open-less n m es l h o = by_value (is_false (take n es) l) refl
  where
    by_value : (b : Bool) → is_false (take n es) l ≡ b → is_false (take n es) l ≡ false
    by_value true t = absurd (false≢true (sym o ∙ false-more n m es l h t))
    by_value false t = t

not_lt : (a b : ℕ) → b ≤ a → nat_lt a b ≡ false
not_lt a b = grind (arith, nat_tests)

is_lt : (a b : ℕ) → a < b → nat_lt a b ≡ true
is_lt a b = grind (arith, nat_tests)

-- the lesser of two numbers is below a third that is not above the second where the first is
pub below-least : (r count n least : ℕ) → least ≡ min r count → n ≤ count → nat_lt r n ≡ nat_lt least n
below-least r count n least e l = by_order (nat_lt r n) refl
  where
    by_order : (b : Bool) → nat_lt r n ≡ b → b ≡ nat_lt least n
    by_order true t = let m : r < n = ltb-true r n t in sym (is_lt least n (omega arith))
    by_order false t = let m : n ≤ r = ltb-false r n t in sym (not_lt least n (omega arith))
