use Rattle.std.proofs.Common.{◌≡◌, ℕ, ◌<◌, ◌≤◌, ◌^◌, pos, decimal}
use Rattle.spec_text.specs.Numbers.{number_in}
use Rattle.spec_text.specs.Numbers.NumberWord.{Number}
use Rattle.spec_text.proofs.Numerals.{numbers_read_again}

-- a written number is read again
pub decimal-again : (n max : ℕ) → n ≤ max → max < 2 ^ 63 → number_in (decimal n) max ≡ Number (pos n)
decimal-again n max low bound = numbers_read_again (pos n) max low bound
