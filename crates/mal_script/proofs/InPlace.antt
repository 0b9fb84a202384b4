-- A line of numbers in a block of a job.
use Rattle.std.proofs.Common.{◌≡◌, ℕ, true, false, ◌==◌, ◌||◌, List, ◌∷◌, Option, Some, None, refl, arith}
use Rattle.std.specs.Prelude.{is_some}
use Rattle.std.proofs.lemmas.Bool.Decides.{nat_tests}
use Rattle.spec_text.specs.Numbers.{is_digit}
use Rattle.mal_text.specs.Numbers.{begins_number}
use Rattle.mal_text.proofs.Fronts.{first_of_number}
use Rattle.spec_dimacs.specs.Reading.{Block}
use Rattle.mal_base.specs.declared.limits.Limits.{Limits}
use Rattle.spec_script.specs.Reading.{OpenJob, Reading, after_row}
use Rattle.mal_script.specs.InPlace.{in_job_of, StaysInBlock}

not_c : (byte : ℕ) → (byte == 45 || is_digit byte) ≡ true → (byte == 99) ≡ false
not_c byte h = grind (arith, nat_tests)

not_a : (byte : ℕ) → (byte == 45 || is_digit byte) ≡ true → (byte == 97) ≡ false
not_a byte h = grind (arith, nat_tests)

number_row : (limits : Limits) (byte : ℕ) (word : List ℕ) (others : List (List ℕ)) (s : Reading) (o : OpenJob) (b : Block) → (byte == 45 || is_digit byte) ≡ true → s.opened ≡ Some o → o.block ≡ Some b → after_row limits ((byte ∷ word) ∷ others) s ≡ in_job_of ((byte ∷ word) ∷ others) s s.opened
number_row limits byte word others s o b h opened begun = rw (not_c byte h, opened, begun, not_a byte h) refl

with_block : (line : List ℕ) (s : Reading) (o : OpenJob) (held : Option Block) → o.block ≡ held → is_some held ≡ true → s.opened ≡ Some o → begins_number line ≡ true → StaysInBlock line s
with_block line s o None begun some opened h = absurd (cc)
with_block line s o (Some b) begun some opened h = λ limits.
    let (byte, led, first) = first_of_number line h in
    let (word, others, e) = first in
    rw e (number_row limits byte word others s o b led opened begun)

-- where a block has begun, a line that begins with a digit or a minus sign is the block's alone
pub stays_in_block : (line : List ℕ) (s : Reading) (o : OpenJob) → s.opened ≡ Some o → is_some o.block ≡ true → begins_number line ≡ true → StaysInBlock line s
stays_in_block line s o opened some h = with_block line s o o.block refl some opened h
