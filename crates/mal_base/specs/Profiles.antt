-- The profiles of a search: their numbers, and what a search asks of its own.
use Rattle.std.specs.Prelude.{ℕ, ℤ, pos, ◌+◌, Bool, true, false, nat_le, ◌==◌, Option, Some, None, if◌then◌else◌}
use Rattle.mal_base.specs.declared.profile.Profile.{Profile}
use Rattle.mal_base.specs.declared.profile.Profile.TheVariants.{Plain, Lean}
use Rattle.mal_base.specs.declared.profile.Policy.{Policy}
use Rattle.mal_base.specs.declared.profile.Reduction.{Reduction}
use Rattle.mal_base.specs.declared.profile.Reduction.TheVariants.{Never, After}

-- the number that texts have
abbrev pub number : Profile → ℕ
number Plain = 1
number Lean = 2

-- the number of the last profile
abbrev pub last_profile : ℕ
last_profile = 2

-- the profile of a number
abbrev pub profile_of : ℤ → Option Profile
profile_of (pos n) = if n == 1 then Some Plain else (if n == 2 then Some Lean else None)
profile_of z = None

-- what a search does: the first profile keeps what it learned as it was found; the second minimizes it, reduces it after
-- 2,000 conflicts, and is not disturbed by an import that takes no clause
abbrev pub policy : Profile → Policy
policy Plain = record { minimizes = false; reduction = Never; skips_empty_imports = false }
policy Lean = record { minimizes = true; reduction = After 2000; skips_empty_imports = true }

-- whether a reduction is due after so many conflicts since the last
abbrev pub is_due : Reduction → ℕ → Bool
is_due Never count = false
is_due (After most) count = nat_le most count

-- the conflicts since the last reduction, after one more: where there is none, none are counted
abbrev pub counted : Reduction → ℕ → ℕ
counted Never count = count
counted (After most) count = count + 1

-- whether so many conflicts may stand there
abbrev pub may_stand : Reduction → ℕ → Bool
may_stand Never count = count == 0
may_stand (After most) count = true
