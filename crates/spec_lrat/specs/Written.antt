-- The words that a proof line is written as.
use Rattle.std.specs.Prelude.{ℕ, List, [], ◌∷◌, ◌++◌, map, codes, Option, Some, None}
use Rattle.spec_text.specs.Numbers.{decimal_word, literal_word}
use Rattle.spec_logic.specs.Refutation.{ProofLine}
use Rattle.spec_logic.specs.Refutation.ProofLine.{Add, Delete}

-- a tautology is written as the literals 1 and -1
abbrev pub written_lits : Option (List ℕ) → List ℕ
written_lits None = 2 ∷ 3 ∷ []
written_lits (Some lits) = lits

abbrev pub words_of_ids : List ℕ → List (List ℕ)
words_of_ids ids = map decimal_word ids ++ codes "0" ∷ []

abbrev pub words_of_lits : List ℕ → List (List ℕ)
words_of_lits lits = map literal_word lits ++ codes "0" ∷ []

-- a deletion carries no id of its own, and is written with 1 before its `d`
abbrev pub row_of : ProofLine → List (List ℕ)
row_of (Add id clause hints) = decimal_word id ∷ (words_of_lits (written_lits clause) ++ words_of_ids hints)
row_of (Delete ids) = codes "1" ∷ codes "d" ∷ words_of_ids ids
