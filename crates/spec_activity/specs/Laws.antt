-- What holds of activities, of the pace and of the order, in the form in which the law functions state it.
use Rattle.mal_base.specs.Limits.{greatest_variable}
use Rattle.std.specs.Prelude.{◌≡◌, ◌≢◌, ℕ, ◌+◌, ◌*◌, ◌≤◌, max, true, false}
use Rattle.spec_activity.specs.Activity.{unit, exponent, is_activity, one, plus, grown}
use Rattle.spec_activity.specs.Pace.{Pace, at_first, after_conflict, after_restart, after_load}
use Rattle.spec_activity.specs.Rank.{is_before}

-- sums and growths of activities are activities
pub record StayInForm : Type 0 where
  pub one_is : is_activity one ≡ true
  pub plus_is : (a b : ℕ) → is_activity a ≡ true → is_activity b ≡ true → is_activity (plus a b) ≡ true
  pub grown_is : (a n : ℕ) → 1 ≤ n → is_activity a ≡ true → is_activity (grown a n) ≡ true

-- it does not matter which of two is added to the other
abbrev pub PlusCommutes : Type 0
PlusCommutes = (a b : ℕ) → plus a b ≡ plus b a

-- what is 24 exponents and more below adds nothing
abbrev pub LittleIsLost : Type 0
LittleIsLost = (a b : ℕ) → exponent b + 24 ≤ exponent a → plus a b ≡ a

-- no activity falls
pub record NeverFall : Type 0 where
  pub plus_rises : (a b : ℕ) → max a b ≤ plus a b
  pub grown_rises : (a n : ℕ) → a ≤ grown a n

-- an exponent rises by at most 1
pub record RiseByOne : Type 0 where
  pub plus_by_one : (a b : ℕ) → exponent (plus a b) ≤ exponent (max a b) + 1
  pub grown_by_one : (a n : ℕ) → 1 ≤ n → exponent (grown a n) ≤ exponent a + 1

-- the bounds of a pace, where no glue is greater than the number of variables: none grows out of 64 bits, for less than
-- 2^35 conflicts
pub record IsPace (p : Pace) : Type 0 where
  pub since_last : p.since ≤ p.conflicts
  pub fast_most : p.fast ≤ greatest_variable * unit
  pub slow_most : p.slow ≤ greatest_variable * unit
  pub limit_least : 100 ≤ p.limit
  pub limit_most : p.limit ≤ 1000 * p.adjust
  pub adjust_least : 100 ≤ p.adjust
  pub adjust_most : 2 * p.adjust ≤ p.next + 100
  pub next_most : p.next ≤ p.conflicts + p.adjust

-- they hold at first, and stay
pub record StaysPace : Type 0 where
  pub first : IsPace at_first
  pub conflict : (glue : ℕ) (p : Pace) → glue ≤ greatest_variable → IsPace p → IsPace (after_conflict glue p)
  pub restart : (p : Pace) → IsPace p → IsPace (after_restart p)
  pub load : (originals : ℕ) (p : Pace) → IsPace p → IsPace (after_load originals p)

-- no average is above the greatest glue
abbrev pub AveragesStay : Type 0
AveragesStay =
    (most glue : ℕ) (p : Pace) → glue ≤ most → p.fast ≤ most * unit → p.slow ≤ most * unit
    → ((after_conflict glue p).fast ≤ most * unit) × ((after_conflict glue p).slow ≤ most * unit)

-- the order is strict, and tells any two variables apart
pub record IsStrictOrder (index : ℕ) : Type 0 where
  pub irreflexive : (a v : ℕ) → is_before index a v a v ≡ false
  pub transitive : (a u b v c w : ℕ) → is_before index a u b v ≡ true → is_before index b v c w ≡ true → is_before index a u c w ≡ true
  pub total : (a v b w : ℕ) → v ≢ w → is_before index a v b w ≡ false → is_before index b w a v ≡ true

-- what comes before a variable that rose came before it already
abbrev pub RiseIsForward : Type 0
RiseIsForward = (index a v b w more : ℕ) → b ≤ more → is_before index a v more w ≡ true → is_before index a v b w ≡ true

abbrev pub OrderIsStrict : Type 0
OrderIsStrict = (index : ℕ) → IsStrictOrder index
