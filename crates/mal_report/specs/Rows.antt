use Rattle.std.specs.Prelude.{ℕ, Bool, List, [], ◌∷◌, ◌++◌, codes, map}
use Rattle.mal_base.specs.NumberedClause.{Line}
use Rattle.mal_report.specs.declared.told.Cause.{Cause}
use Rattle.mal_report.specs.declared.told.Cause.TheVariants as cause
use Rattle.spec_text.specs.Numbers.{decimal_word, literal_word}
use Rattle.spec_report.specs.Replies.{model_words, proof_row}

-- the words of the line of a model
abbrev pub model_row : List Bool → List (List ℕ)
model_row model = codes "v" ∷ (model_words 1 model ++ codes "0" ∷ [])

-- the words of the line of the assumptions that fail
abbrev pub failed_row : List ℕ → List (List ℕ)
failed_row failed = codes "k" ∷ (map literal_word failed ++ codes "0" ∷ [])

-- the words of the lines of a proof
abbrev pub proof_rows : List Line → List (List (List ℕ))
proof_rows lines = map proof_row lines

-- the words of the line of a cause
abbrev pub cause_row : Cause → List (List ℕ)
cause_row (cause.Spent n) = codes "u" ∷ codes "spent" ∷ decimal_word n ∷ []
cause_row cause.Starved = codes "u" ∷ codes "starved" ∷ codes "3" ∷ []
