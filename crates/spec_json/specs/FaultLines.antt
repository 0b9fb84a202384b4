-- The lines that tell a fault of a description.
use Rattle.std.specs.Prelude.{ℕ, List, [], ◌∷◌, codes, Option, Some, None}
use Rattle.std.specs.Option.{option_map_or}
use Rattle.spec_text.specs.Lines.{line_of}
use Rattle.spec_text.specs.Numbers.{decimal_word}
use Rattle.spec_script.specs.FaultLines.{which_word}
use Rattle.spec_json.specs.declared.fault.JsonFault.{JsonFault}
use Rattle.spec_json.specs.declared.fault.JsonFault.TheVariants.{NotJson, Shape, Range, Duplicate, VarTooLarge, Opposite, Limit, OutOfMemory}

-- the words that tell a fault of a job
abbrev pub job_words : ℕ → List (List ℕ) → List (List ℕ)
job_words job words = codes "job" ∷ decimal_word job ∷ words

-- the words that tell a fault; out of memory is none of the description
abbrev pub fault_words : JsonFault → Option (List (List ℕ))
fault_words NotJson = Some (codes "NotJson" ∷ [])
fault_words (Shape job) = Some (job_words job (codes "Shape" ∷ []))
fault_words (Range job) = Some (job_words job (codes "Range" ∷ []))
fault_words (Duplicate job) = Some (job_words job (codes "Duplicate" ∷ []))
fault_words (VarTooLarge job) = Some (job_words job (codes "VarTooLarge" ∷ []))
fault_words (Opposite job var) = Some (job_words job (codes "Opposite" ∷ decimal_word var ∷ []))
fault_words (Limit job which) = Some (job_words job (codes "Limit" ∷ which_word which ∷ []))
fault_words OutOfMemory = None

-- the line of these words
abbrev pub line_of_words : List (List ℕ) → List ℕ
line_of_words words = line_of (codes "fault:" ∷ codes "json" ∷ words)

-- the line that tells a fault, nothing when out of memory
abbrev pub fault_line : JsonFault → List ℕ
fault_line fault = option_map_or line_of_words (fault_words fault) []
