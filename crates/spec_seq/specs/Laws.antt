use Rattle.std.specs.Prelude.{◌≡◌, ℕ, ◌+◌, ◌-◌, ◌^◌, ◌<◌, ◌≤◌, [], ◌∷◌, map}
use Rattle.spec_seq.specs.Luby.{luby}
use Rattle.spec_seq.specs.Draws.{draws}

-- Luby's sequence: at a place 2^k - 1 stands 2^(k-1), and from each place 2^(k-1) on up to there the sequence begins
-- again
pub record IsLubys : Type 0 where
  pub peaks : (k : ℕ) → k < 64 → luby (2 ^ (k + 1) - 1) ≡ 2 ^ k
  pub repeats : (k i : ℕ) → k < 64 → 2 ^ k ≤ i → i < 2 ^ (k + 1) - 1 → luby i ≡ luby (i - 2 ^ k + 1)

-- worked examples
pub record HasExamples : Type 0 where
  pub luby_begins : map luby (1 ∷ 2 ∷ 3 ∷ 4 ∷ 5 ∷ 6 ∷ 7 ∷ []) ≡ 1 ∷ 1 ∷ 2 ∷ 1 ∷ 1 ∷ 2 ∷ 4 ∷ []
  pub first_draws : draws 7 1 ≡ 16838 ∷ 5758 ∷ 10113 ∷ 17515 ∷ 31051 ∷ 5627 ∷ 23010 ∷ []
