-- A line of numbers.
use Rattle.std.proofs.Common.{◌≡◌, ℕ, true, false, ◌==◌, ◌||◌, List, ◌∷◌, ℤ, Option, Some, None, IfSome, refl, arith}
use Rattle.std.proofs.lemmas.Bool.Decides.{nat_tests}
use Rattle.mal_base.specs.declared.stage.Stage.TheVariants as stage
use Rattle.spec_text.specs.Inputs.{words_of}
use Rattle.spec_text.specs.Numbers.{is_digit}
use Rattle.spec_dimacs.specs.Reading.{Block, after_row, after_words}
use Rattle.mal_text.specs.Numbers.{said_within, BeginsWith, begins_number}
use Rattle.mal_dimacs.specs.Reads.{after_said}
use Rattle.mal_text.proofs.Fronts.{first_of_number}

not_c : (byte : ℕ) → (byte == 45 || is_digit byte) ≡ true → (byte == 99) ≡ false
not_c byte h = grind (arith, nat_tests)

not_p : (byte : ℕ) → (byte == 45 || is_digit byte) ≡ true → (byte == 112) ≡ false
not_p byte h = grind (arith, nat_tests)

not_percent : (byte : ℕ) → (byte == 45 || is_digit byte) ≡ true → (byte == 37) ≡ false
not_percent byte h = grind (arith, nat_tests)

number_row : (byte : ℕ) (word : List ℕ) (others : List (List ℕ)) (b : Block) → (byte == 45 || is_digit byte) ≡ true → b.stage ≡ stage.Clauses → after_row ((byte ∷ word) ∷ others) b ≡ after_words ((byte ∷ word) ∷ others) b
number_row byte word others b h at = rw (not_c byte h, not_p byte h, at, not_percent byte h) refl

-- a line that begins with a digit or a minus sign among the clauses is one of numbers
pub is_number_row : (line : List ℕ) (b : Block) → begins_number line ≡ true → b.stage ≡ stage.Clauses → after_row (words_of line) b ≡ after_words (words_of line) b
is_number_row line b h at =
    let (byte, led, first) = first_of_number line h in
    let (word, others, e) = first in
    rw e (number_row byte word others b led at)

-- the step that a number at the beginning of a line makes
next_step : (line : List ℕ) (z : ℤ) (words : List (List ℕ)) (b : Block) → BeginsWith line z words → after_words (words_of line) b ≡ after_said (said_within b.variables z) words b
next_step line z words b (word, e, said) = rw (e, said b.variables) refl

pub next_steps : {X : Type 0} (o : Option X) (number : X → ℤ) (words : X → List (List ℕ)) (line : List ℕ) (b : Block) → IfSome o (λ cut. BeginsWith line (number cut) (words cut)) → IfSome o (λ cut. after_words (words_of line) b ≡ after_said (said_within b.variables (number cut)) (words cut) b)
next_steps None number words line b h = tt
next_steps (Some cut) number words line b h = next_step line (number cut) (words cut) b h
