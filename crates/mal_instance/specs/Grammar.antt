-- The grammar of instances: which formula and literals a text spells.
use Rattle.std.specs.Prelude.{◌≡◌, ℕ, true, List, [], ◌∷◌, ◌++◌}
use Rattle.std.specs.List.{list_all}
use Rattle.mal_base.specs.Formulas.{Formulated}
use Rattle.spec_dimacs.specs.Rows.{is_passed, rows_of}
use Rattle.spec_dimacs.specs.Grammar as dimacs
use Rattle.mal_instance.specs.Rows.{is_formula_row}
use Rattle.mal_instance.specs.Reading.{Instance}

-- what the words after the first one of the line of literals say, for a formula
abbrev pub LitsGrammar : Type 1
LitsGrammar = Formulated → List (List ℕ) → List ℕ → Type 0

-- a text spells an instance: its lines are those of a text that spells the formula, of which none begins with this
-- word, then the line of the word and of words that say the literals, and then such lines as are passed over
pub record Spells (word : List ℕ) (Say : LitsGrammar) (text : List ℕ) (w : Instance) : Type 0 where
  pub first : List ℕ
  pub words : List (List ℕ)
  pub others : List (List (List ℕ))
  pub rows : rows_of text ≡ rows_of first ++ (word ∷ words) ∷ others
  pub inside : list_all (is_formula_row (word ∷ [])) (rows_of first) ≡ true
  pub formula : dimacs.Spells first w.formula
  pub literals : Say w.formula words w.literals
  pub passed : list_all is_passed others ≡ true
