-- What holds of every text, in the form in which the law functions state it.
use Rattle.std.specs.Prelude.{◌≡◌, ◌↔◌, ℕ, List, Ok}
use Rattle.mal_base.specs.Formulas.{Formulated}
use Rattle.mal_instance.specs.Reading.{Instance, LitsReading, read_text}
use Rattle.mal_instance.specs.Grammar.{LitsGrammar, Spells}

-- words say literals exactly where reading gives them
abbrev pub LitsAreRead : LitsGrammar → LitsReading → Type 0
LitsAreRead Say read = (f : Formulated) (words : List (List ℕ)) (lits : List ℕ) → Say f words lits ↔ (read f words ≡ Ok lits)

-- then a text spells an instance exactly where reading gives it: no text spells two instances, or has a first fault and
-- spells one
abbrev pub SpelledIsRead : Type 1
SpelledIsRead = (Say : LitsGrammar) (read : LitsReading) → LitsAreRead Say read → (word text : List ℕ) (w : Instance) → Spells word Say text w ↔ (read_text word read text ≡ Ok w)
