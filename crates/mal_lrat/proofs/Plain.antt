-- Numbers that are written as most are, at the beginning of a line.
use Rattle.std.proofs.Common.{◌≡◌, ◌≢◌, ℕ, zero, suc, ◌+◌, ◌-◌, ◌<◌, true, List, ◌∷◌, ◌++◌, nat_lt, length, take, drop, get_or, refl, sym, ap, ◌∙◌, inr, arith}
use Rattle.std.specs.List.{list_all}
use Rattle.std.proofs.lemmas.Bool.{and_from, lt-ltb}
use Rattle.std.proofs.lemmas.List.{take_rest, drop_more, length-take-le, take-append-drop}
use Rattle.spec_text.specs.Numbers.{is_digit, is_numeral, value_of}
use Rattle.mal_text.specs.Numbers.{BeginsWithDigits}

-- digits of some value, up to a space
pub plain-begins : (line : List ℕ) (i value : ℕ) → i < length line → list_all is_digit (take i line) ≡ true → value ≡ value_of (take i line) → (i ≡ 0 → value ≡ 0) → value ≢ 0 → get_or line i 0 ≡ 32 → BeginsWithDigits line value (take (length line - (i + 1)) (drop (i + 1) line))
plain-begins line i value low digits is none some space = (take i line, numeral, sym is, inr (32, refl, cut))
  where
    above : (j : ℕ) → i ≡ j → 0 < length (take i line)
    above zero e = absurd (some (none e))
    above (suc j) e = omega (arith, length-take-le i line (omega arith))

    numeral : is_numeral (take i line) ≡ true
    numeral = and_from (nat_lt 0 (length (take i line))) (list_all is_digit (take i line)) (lt-ltb 0 (length (take i line)) (above i refl)) digits

    behind : drop i line ≡ 32 ∷ take (length line - (i + 1)) (drop (i + 1) line)
    behind = drop_more line i 0 low ∙ (ap (λ (b : ℕ). b ∷ drop (i + 1) line) space ∙ ap (λ (rest : List ℕ). 32 ∷ rest) (sym (take_rest line (i + 1))))

    cut : line ≡ take i line ++ 32 ∷ take (length line - (i + 1)) (drop (i + 1) line)
    cut = sym (take-append-drop i line) ∙ ap (λ (rest : List ℕ). take i line ++ rest) behind
