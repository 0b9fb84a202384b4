use Rattle.std.proofs.Common.{◌≡◌, ℕ, zero, suc, ◌+◌, ◌-◌, ◌*◌, ◌/◌, ◌^◌, ◌<◌, ◌≤◌, Bool, true, false, cond, sym, arith}
use Rattle.std.specs.Prelude.{◌==◌, nat_le, nat_lt, if◌then◌else◌}
use Rattle.std.proofs.lemmas.Nat.{pow_pos}
use Rattle.std.proofs.lemmas.Bool.Decides.{nat_tests}
use Rattle.spec_seq.specs.Luby.{luby, luby_below}

some_below : (k i : ℕ) → 1 ≤ luby_below k i
some_below zero i = omega arith
some_below (suc k) i = by_test (i + 1 == 2 ^ suc k) (some_below k (if nat_lt i (2 ^ k) then i else i + 1 - 2 ^ k))
  where
    by_test : {n : ℕ} (b : Bool) → 1 ≤ n → 1 ≤ cond b (2 ^ k) n
    by_test true h = omega (arith, pow_pos k)
    by_test false h = h

luby-some : (i : ℕ) → 1 ≤ luby i
unfolding luby
luby-some i = some_below 64 i

not_le : (a b : ℕ) → b < a → nat_le a b ≡ false
not_le a b = grind (arith, nat_tests)

-- no restart is due before there are 64 conflicts
pub none-due : (conflicts number : ℕ) → conflicts / 64 ≡ 0 → false ≡ nat_le (64 * luby number) conflicts
none-due conflicts number e = sym (not_le (64 * luby number) conflicts (omega (arith, luby-some number, e)))
