use Rattle.std.specs.Prelude.{◌≡◌, ◌+◌, ◌*◌, ◌/◌, true, false}
use Rattle.spec_activity.specs.Activity.{unit, is_activity, one, plus, grown}
use Rattle.spec_activity.specs.Pace.{Pace, at_first, toward, after_conflict, is_restart_due, after_restart, limit_for, after_load}
use Rattle.spec_activity.specs.Rank.{is_before}

-- a pace after some conflicts, whose limit rises at the next one
abbrev pub before_rise : Pace
before_rise = record { conflicts = 99; since = 1; fast = 4 * unit; slow = 3 * unit; limit = 100; adjust = 100; next = 100 }

-- worked examples: 1 and 1 carry, 1 and nothing, exponents apart, a mantissa that carries as it grows, and one that does not
pub record HasExamples : Type 0 where
  pub one_is : one ≡ 25165824
  pub carries : plus one one ≡ 2 * unit + unit / 2
  pub nothing_more : plus one 0 ≡ one
  pub shifted : plus (3 * unit + unit / 2) one ≡ 3 * unit + 10485760
  pub lost : plus (30 * unit + unit / 2) one ≡ 30 * unit + unit / 2
  pub carries_odd : plus (2 * unit + 16777215) (2 * unit + 8388610) ≡ 3 * unit + 12582912
  pub grows : grown one 19 ≡ unit + 8830113
  pub grows_over : grown (unit + 16777215) 19 ≡ 2 * unit + 8830113
  pub out_of_form : is_activity (unit + 5) ≡ false
  pub up : toward 100 164 32 ≡ 102
  pub down : toward 164 100 32 ≡ 162
  pub first_conflict : after_conflict 3 at_first ≡ record { conflicts = 1; since = 1; fast = 3 * unit; slow = 3 * unit; limit = 100; adjust = 100; next = 100 }
  pub limit_rises : after_conflict 4 before_rise ≡ record { conflicts = 100; since = 2; fast = 4 * unit; slow = 3 * unit + 167772; limit = 110; adjust = 150; next = 250 }
  pub restarts : is_restart_due (after_conflict 4 before_rise) ≡ true
  pub too_early : is_restart_due before_rise ≡ false
  pub restarted : is_restart_due (after_restart (after_conflict 4 before_rise)) ≡ false
  pub few_clauses : limit_for 12 ≡ 100
  pub some_clauses : limit_for 3000 ≡ 1000
  pub many_clauses : limit_for 1000000 ≡ 100000
  pub loaded : (after_load 3000 before_rise).limit ≡ 1000
  pub more_active : is_before 0 5 2 3 1 ≡ true
  pub by_tie : is_before 1 7 64 7 3 ≡ true
  pub by_number : is_before 0 7 2 7 3 ≡ true
  pub not_itself : is_before 5 7 2 7 2 ≡ false
