-- The words after the first of a line of assumptions, as they are read.
use Rattle.std.specs.Prelude.{ℕ, zero, Bool, true, false, List, [], ◌∷◌, ◌++◌, map, bytes_eq, codes, if◌then◌else◌, pos, Option, Some, None, Result, Ok, Err}
use Rattle.mal_base.specs.Clauses.{clash}
use Rattle.spec_text.specs.Numbers.{NumberWord, number_in}
use Rattle.spec_text.specs.Numbers.NumberWord.{NotANumber, TooLarge, Number}
use Rattle.spec_dimacs.specs.Merged.{sorted}
use Rattle.spec_dimacs.specs.Reading.{◌>>=◌, code_of}
use Rattle.mal_base.specs.declared.line_fault.LineFault.{LineFault}
use Rattle.mal_base.specs.declared.line_fault.LineFault.TheVariants.{BadLine, Opposite, Range}

-- after the 0 that closes the literals stands nothing; a literal above the variables was met, or none
abbrev pub closed : List ℕ → Bool → List NumberWord → Result (List ℕ) LineFault
closed lits above [] = if above then Err Range else Ok lits
closed lits above (word ∷ words) = Err BadLine

-- the literals of words up to the 0 that ends the line, after those of the words before
abbrev pub literals_from : List ℕ → Bool → List NumberWord → Result (List ℕ) LineFault
literals_from lits above [] = Err BadLine
literals_from lits above (NotANumber ∷ words) = Err BadLine
literals_from lits above (TooLarge ∷ words) = literals_from lits true words
literals_from lits above (Number (pos zero) ∷ words) = closed lits above words
literals_from lits above (Number z ∷ words) = literals_from (lits ++ code_of z ∷ []) above words

-- sorted literals, none of which has a variable with both signs
abbrev pub consistent : List ℕ → Option ℕ → Result (List ℕ) LineFault
consistent lits None = Ok lits
consistent lits (Some var) = Err (Opposite var)

-- the assumptions of these words: literals of variables up to this one, in any order and with repeats, and then a 0
abbrev pub assumptions_in : ℕ → List (List ℕ) → Result (List ℕ) LineFault
assumptions_in variables words =
    literals_from [] false (map (λ word. number_in word variables) words) >>= λ lits. consistent (sorted lits) (clash (sorted lits))

-- the assumptions of a line: its first word is `a`
abbrev pub assumptions_of : ℕ → List (List ℕ) → Result (List ℕ) LineFault
assumptions_of variables [] = Err BadLine
assumptions_of variables (first ∷ others) = if bytes_eq first (codes "a") then assumptions_in variables others else Err BadLine
