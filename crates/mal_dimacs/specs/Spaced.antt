use Rattle.std.specs.Prelude.{ℕ, List, [], ◌∷◌, ◌++◌}
use Rattle.spec_text.specs.Numbers.{literal_word}

-- a literal's word and a space
abbrev pub spaced : ℕ → List ℕ
spaced lit = literal_word lit ++ 32 ∷ []
