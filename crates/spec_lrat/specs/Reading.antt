-- Reading the words of a proof line: the line, or its first fault.
use Rattle.std.specs.Prelude.{ℕ, zero, suc, ◌^◌, Bool, true, false, List, [], ◌∷◌, length, ◌==◌, codes, bytes_eq, nat_le, nat_abs, if◌then◌else◌, ℤ, pos, negsuc, Option, Some, None, Result, Ok, Err}
use Rattle.std.specs.List.{list_any}
use Rattle.mal_base.specs.Limits.{limits}
use Rattle.mal_base.specs.Literals.{literal}
use Rattle.spec_text.specs.Numbers.{NumberWord, number_in}
use Rattle.spec_text.specs.Numbers.NumberWord.{NotANumber, TooLarge, Number}
use Rattle.spec_logic.specs.Refutation.{ProofLine}
use Rattle.spec_logic.specs.Refutation.ProofLine.{Add, Delete}
use Rattle.spec_dimacs.specs.Merged.{clause_of}

-- what can be wrong with a proof line
pub data Fault : Type 0 where
  BadNumber : Fault
  MissingZero : Fault
  IdNotRising : (last : ℕ) → (id : ℕ) → Fault
  NegativeHint : Fault

-- variables are those that are served, ids and hints at most 2^62
abbrev pub greatest_id : ℕ
greatest_id = 2 ^ 62

-- the words after a leading word `l`
abbrev pub behind_l : List (List ℕ) → List (List ℕ)
behind_l [] = []
behind_l (word ∷ words) = if bytes_eq word (codes "l") then words else word ∷ words

abbrev pub is_zero : ℤ → Bool
is_zero (pos zero) = true
is_zero (pos (suc n)) = false
is_zero (negsuc n) = false

abbrev pub is_negative : ℤ → Bool
is_negative (pos n) = false
is_negative (negsuc n) = true

-- a word that says 0
abbrev pub says_zero : NumberWord → Bool
says_zero (Number z) = is_zero z
says_zero NotANumber = false
says_zero TooLarge = false

abbrev pub is_end : List ℕ → Bool
is_end word = says_zero (number_in word 0)

-- the words before the first 0, and those after it
abbrev pub before_end : List (List ℕ) → List (List ℕ)
before_end [] = []
before_end (word ∷ words) = if is_end word then [] else word ∷ before_end words

abbrev pub behind_end : List (List ℕ) → List (List ℕ)
behind_end [] = []
behind_end (word ∷ words) = if is_end word then words else behind_end words

-- what one word says before what the words after it say, none where one of both is none
abbrev pub before_all : {A : Type 0} → Option A → Option (List A) → Option (List A)
before_all (Some x) (Some xs) = Some (x ∷ xs)
before_all (Some x) None = None
before_all None others = None

-- the numbers that words say, none where a word says no number with a magnitude up to 2^62
abbrev pub number_said : NumberWord → Option ℤ
number_said (Number z) = Some z
number_said NotANumber = None
number_said TooLarge = None

abbrev pub numbers_of : List (List ℕ) → Option (List ℤ)
numbers_of [] = Some []
numbers_of (word ∷ words) = before_all (number_said (number_in word greatest_id)) (numbers_of words)

-- the literals that words say, by their codes, none where a word says no literal
abbrev pub literal_said : NumberWord → Option ℕ
literal_said (Number (pos zero)) = None
literal_said (Number (pos (suc n))) = Some (literal (suc n) true)
literal_said (Number (negsuc n)) = Some (literal (suc n) false)
literal_said NotANumber = None
literal_said TooLarge = None

abbrev pub literals_of : List (List ℕ) → Option (List ℕ)
literals_of [] = Some []
literals_of (word ∷ words) = before_all (literal_said (number_in word limits.variables)) (literals_of words)

-- the id that a word says, which is at least 1
abbrev pub id_said : NumberWord → Option ℕ
id_said (Number (pos zero)) = None
id_said (Number (pos (suc n))) = Some (suc n)
id_said (Number (negsuc n)) = None
id_said NotANumber = None
id_said TooLarge = None

-- numbers of which the last is 0 and no other is
abbrev pub are_closed : List ℤ → Bool
are_closed [] = false
are_closed (z ∷ zs) = if is_zero z then length zs == 0 else are_closed zs

-- the magnitudes of the numbers before the first 0
abbrev pub ids_of : List ℤ → List ℕ
ids_of [] = []
ids_of (z ∷ zs) = if is_zero z then [] else nat_abs z ∷ ids_of zs

-- a deletion of the ids that these numbers are, closed by a 0
abbrev pub deleting : Option (List ℤ) → Result ProofLine Fault
deleting None = Err BadNumber
deleting (Some zs) =
    if list_any is_negative zs then Err BadNumber else
    if are_closed zs then Ok (Delete (ids_of zs)) else Err MissingZero

-- a line that adds, of its literals and of its hints, which a 0 closes
abbrev pub adding_closed : ℕ → ℕ → List ℕ → List ℤ → Result ProofLine Fault
adding_closed last id lits hints =
    if nat_le id last then Err (IdNotRising last id) else
    if list_any is_negative hints then Err NegativeHint else
    Ok (Add id (clause_of lits) (ids_of hints))

abbrev pub adding : ℕ → ℕ → Option (List ℕ) → Option (List ℤ) → Result ProofLine Fault
adding last id None hints = Err BadNumber
adding last id (Some lits) None = Err BadNumber
adding last id (Some lits) (Some hints) = if are_closed hints then adding_closed last id lits hints else Err MissingZero

-- the words after the id: `d` and ids, or literals and hints
abbrev pub added : ℕ → ℕ → List (List ℕ) → Result ProofLine Fault
added last id words = adding last id (literals_of (before_end words)) (numbers_of (behind_end words))

abbrev pub behind_id : ℕ → ℕ → List (List ℕ) → Result ProofLine Fault
behind_id last id [] = added last id []
behind_id last id (word ∷ words) = if bytes_eq word (codes "d") then deleting (numbers_of words) else added last id (word ∷ words)

-- the line after a word that says its id
abbrev pub with_id : ℕ → Option ℕ → List (List ℕ) → Result ProofLine Fault
with_id last None words = Err BadNumber
with_id last (Some id) words = behind_id last id words

abbrev pub reading_of : ℕ → List (List ℕ) → Result ProofLine Fault
reading_of last [] = Err MissingZero
reading_of last (word ∷ words) = with_id last (id_said (number_in word greatest_id)) words

-- the line that words spell after the id `last`, or its first fault
abbrev pub reading : ℕ → List (List ℕ) → Result ProofLine Fault
reading last row = reading_of last (behind_l row)
