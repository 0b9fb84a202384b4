use Rattle.std.proofs.Common.{◌≡◌, ℕ, ◌+◌, ◌≤◌, Bool, true, false, not, ◌&&◌, nat_le, List, refl, arith}
use Rattle.std.proofs.lemmas.Bool.{false≢true, and_parts}
use Rattle.std.proofs.lemmas.Bool.Decides.{nat_tests}
use Rattle.mal_base.specs.Literals.{var_of}
use Rattle.mal_base.specs.declared.trail_entry.TrailEntry.{TrailEntry}
use Rattle.spec_node.specs.Value.{has_value, level_of}
use Rattle.mal_freeze.specs.Imaged.{may_follow}

-- what it means that an entry may stand after others
pub record MayFollow (greatest : ℕ) (before : List TrailEntry) (e : TrailEntry) : Type 0 where
  pub low : 1 ≤ var_of e.lit
  pub high : var_of e.lit ≤ greatest
  pub free : has_value before (var_of e.lit) ≡ false
  pub last : level_of before ≤ e.level
  pub next : e.level ≤ level_of before + 1

test_le : (a b : ℕ) → nat_le a b ≡ true → a ≤ b
test_le a b = grind (arith, nat_tests)

not_true : (b : Bool) → not b ≡ true → b ≡ false
not_true true h = absurd (false≢true h)
not_true false h = refl

pub follow_parts : (greatest : ℕ) (before : List TrailEntry) (e : TrailEntry) → may_follow greatest before e ≡ true → MayFollow greatest before e
follow_parts greatest before e h =
    let v = var_of e.lit in
    let a = and_parts (nat_le 1 v && nat_le v greatest) (not (has_value before v) && (nat_le (level_of before) e.level && nat_le e.level (level_of before + 1))) h in
    let b = and_parts (nat_le 1 v) (nat_le v greatest) a.0 in
    let c = and_parts (not (has_value before v)) (nat_le (level_of before) e.level && nat_le e.level (level_of before + 1)) a.1 in
    let d = and_parts (nat_le (level_of before) e.level) (nat_le e.level (level_of before + 1)) c.1 in
    record { low = test_le 1 v b.0; high = test_le v greatest b.1; free = not_true (has_value before v) c.0; last = test_le (level_of before) e.level d.0; next = test_le e.level (level_of before + 1) d.1 }
