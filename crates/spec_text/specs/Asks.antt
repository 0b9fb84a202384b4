-- The words of an ask, as scripts, histories and replies have them: how they are written, and what they say.
use Rattle.std.specs.Prelude.{ℕ, ℤ, pos, Bool, true, false, ◌&&◌, List, [], ◌∷◌, ◌==◌, if◌then◌else◌, Option, Some, None, Result, Ok, Err}
use Rattle.mal_base.specs.Asks.{Terms, Weighed, ask_of_numbers, weight_of}
use Rattle.mal_base.specs.Limits.{limits}
use Rattle.mal_base.specs.Profiles.{number, last_profile}
use Rattle.mal_base.specs.declared.profile.Profile.{Profile}
use Rattle.mal_base.specs.declared.profile.Profile.TheVariants.{Plain}
use Rattle.spec_text.specs.Numbers.{NumberWord, decimal_word, number_in}
use Rattle.spec_text.specs.Numbers.NumberWord.{NotANumber, TooLarge, Number}
use Rattle.spec_text.specs.declared.ask_fault.AskFault.{AskFault}
use Rattle.spec_text.specs.declared.ask_fault.AskFault.TheVariants.{NotNumbers, OutOfRange}

-- ---- profiles

-- the number of the first profile, for which no word has to stand
abbrev pub first_profile : ℕ
first_profile = number Plain

-- a profile is the first one
abbrev pub is_first : Profile → Bool
is_first profile = number profile == first_profile

-- the words of a profile: the first one has none
abbrev pub profile_words : Profile → List (List ℕ)
profile_words profile = if is_first profile then [] else decimal_word (number profile) ∷ []

-- the number that the words of a profile say: no word says the first profile, and more than one say no number
abbrev pub profile_in : List (List ℕ) → NumberWord
profile_in [] = Number (pos first_profile)
profile_in (word ∷ []) = number_in word last_profile
profile_in words = NotANumber

-- ---- asks and weights

-- the words of an ask
abbrev pub ask_words : Terms → List (List ℕ)
ask_words ask = decimal_word ask.priority ∷ decimal_word ask.demand ∷ decimal_word ask.slices ∷ profile_words ask.profile

-- a word says a number, whatever it is
abbrev pub is_number : NumberWord → Bool
is_number NotANumber = false
is_number TooLarge = true
is_number (Number z) = true

-- the number that a word says; where it says none that is wanted 0, which is in no range
abbrev pub number_said : NumberWord → ℤ
number_said NotANumber = pos 0
number_said TooLarge = pos 0
number_said (Number z) = z

-- what numbers make, which they make where each is in its range
abbrev pub ranged : {A : Type 0} → Option A → Result A AskFault
ranged None = Err OutOfRange
ranged (Some x) = Ok x

-- the ask of what four words say: a priority, a demand, slices and the number of a profile
abbrev pub ask_said : NumberWord → NumberWord → NumberWord → NumberWord → Result Terms AskFault
ask_said p d s q =
    if is_number p && is_number d && is_number s && is_number q
    then ranged (ask_of_numbers (number_said p) (number_said d) (number_said s) (number_said q))
    else Err NotNumbers

-- the ask of three words, and of what is said for the number of the profile
abbrev pub ask_in : List ℕ → List ℕ → List ℕ → NumberWord → Result Terms AskFault
ask_in p d s profile = ask_said (number_in p limits.priority) (number_in d limits.demand) (number_in s limits.slices) profile

-- the weight of what two words say: a priority and a demand
abbrev pub weight_said : NumberWord → NumberWord → Result Weighed AskFault
weight_said p d = if is_number p && is_number d then ranged (weight_of (number_said p) (number_said d)) else Err NotNumbers

-- the weight of two words
abbrev pub weight_in : List ℕ → List ℕ → Result Weighed AskFault
weight_in p d = weight_said (number_in p limits.priority) (number_in d limits.demand)
