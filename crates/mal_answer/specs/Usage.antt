-- The line for words that ask for nothing.
use Rattle.std.specs.Prelude.{ℕ, List, [], ◌∷◌, ◌++◌, map, codes, if◌then◌else◌}
use Rattle.std.specs.List.{join_with_byte}
use Rattle.clap.specs.Walk.{Text}
use Rattle.mal_answer.specs.Forms.{Form, Opt, forms}

-- an option with the letter for its value, in brackets where it may be left out
abbrev pub option_usage : Opt → Text
option_usage o = if o.required then codes "--" ++ o.name ++ 32 ∷ o.value else codes "[--" ++ o.name ++ 32 ∷ o.value ++ codes "]"

abbrev pub usage_of : Form → Text
usage_of f = join_with_byte 32 (f.name ∷ map option_usage f.options)

-- the commands with their options, after commas
abbrev pub usage_line : List ℕ
usage_line = codes "usage: mal" ++ join_with_byte 44 (map (λ f. 32 ∷ usage_of f) forms) ++ 10 ∷ []
