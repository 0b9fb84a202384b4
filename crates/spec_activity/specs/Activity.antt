-- How often and how lately a variable or a clause took part in conflicts, as a number with an exponent and a mantissa of
-- 24 bits: the exponent times 2^24, and the mantissa.
use Rattle.std.specs.Prelude.{ℕ, ◌+◌, ◌-◌, ◌*◌, ◌/◌, ◌%◌, ◌^◌, ◌==◌, ◌||◌, nat_lt, nat_le, min, max, Bool, if◌then◌else◌}

-- what follows the greatest mantissa
abbrev pub unit : ℕ
unit = 16777216

abbrev pub exponent : ℕ → ℕ
exponent a = a / unit

abbrev pub mantissa : ℕ → ℕ
mantissa a = a % unit

-- whether a number is an activity: 0, or with the upper bit of the mantissa
abbrev pub is_activity : ℕ → Bool
is_activity a = a == 0 || nat_le (unit / 2) (mantissa a)

-- what activities begin to rise by: exponent 1, the least mantissa
abbrev pub one : ℕ
one = unit + unit / 2

-- an exponent and a mantissa below twice the unit as an activity, with a carry where the mantissa is above its bits
abbrev pub carried : ℕ → ℕ → ℕ
carried e m = if nat_lt m unit then e * unit + m else (e + 1) * unit + m / 2

-- the sum, the greater one first: the lesser mantissa is shifted by the distance of the exponents
abbrev pub raised : ℕ → ℕ → ℕ
raised a b = carried (exponent a) (mantissa a + mantissa b / 2 ^ (exponent a - exponent b))

abbrev pub plus : ℕ → ℕ → ℕ
plus a b = raised (max a b) (min a b)

-- an activity that grew by an nth
abbrev pub grown : ℕ → ℕ → ℕ
grown a n = carried (exponent a) (mantissa a + mantissa a / n)
