-- The value of a string of digits.
use Rattle.std.proofs.Common.{◌≡◌, ℕ, ◌<◌, ◌≤◌, List, [], ◌∷◌, length, drop, get_or, fold, arith, le_refl, le_trans, suc, ap, drop-cons}
use Rattle.spec_text.specs.Numbers.{with_digit, value_of}

-- more digits make no smaller value
pub fold_at_least : (value : ℕ) (digits : List ℕ) → value ≤ fold with_digit value digits
fold_at_least value [] = le_refl value
fold_at_least value (digit ∷ digits) = le_trans (omega arith) (fold_at_least (with_digit value digit) digits)

-- a digit more of a string whose value is within a bound keeps within it
pub next_within : (digits : List ℕ) (index value max : ℕ) → index < length digits → fold with_digit value (drop index digits) ≡ value_of digits → value_of digits ≤ max → with_digit value (get_or digits index 0) ≤ max
next_within digits index value max low e h =
    let at : fold with_digit value (drop index digits) ≡ fold with_digit (with_digit value (get_or digits index 0)) (drop (suc index) digits) = ap (fold with_digit value) (drop-cons digits index 0 low) in
    let most : with_digit value (get_or digits index 0) ≤ fold with_digit (with_digit value (get_or digits index 0)) (drop (suc index) digits) = fold_at_least (with_digit value (get_or digits index 0)) (drop (suc index) digits) in
    omega arith
