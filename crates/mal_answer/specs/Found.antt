-- What is found in the words, as the contracts of the reading functions say it.
use Rattle.std.specs.Prelude.{◌≡◌, ◌⊎◌, ℕ, ◌<◌, ◌≤◌, ◌^◌, List, decimal, Option, Some, None}
use Rattle.clap.specs.Walk.{Text}
use Rattle.mal_answer.specs.Requests.{Means, MeansNothing}
use Rattle.mal_answer.specs.declared.words.request.Request.{Request}

-- the request of the words, none where they ask for nothing
abbrev pub IsMeaning : Option Request → List Text → Type 0
IsMeaning None words = MeansNothing words
IsMeaning (Some r) words = Means words r

-- the number below 2^32 that a word is in decimal digits
abbrev pub IsDecimalOf : Option ℕ → Text → Type 0
IsDecimalOf None word = (n : ℕ) → n < 2 ^ 32 → word ≡ decimal n → ⊥
IsDecimalOf (Some n) word = word ≡ decimal n

-- a number where it is in a range
abbrev pub IsWithin : ℕ → ℕ → ℕ → Option ℕ → Type 0
IsWithin least most n None = (n < least) ⊎ (most < n)
IsWithin least most n (Some m) = (least ≤ n) × (n ≤ most) × (m ≡ n)
