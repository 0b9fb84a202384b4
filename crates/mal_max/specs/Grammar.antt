-- The grammar of a formula and the line of soft literals after it: which instance a text spells.
use Rattle.std.specs.Prelude.{◌≡◌, ℕ, ◌≤◌, true, List, length, map}
use Rattle.mal_base.specs.Limits.{limits}
use Rattle.mal_base.specs.Formulas.{Formulated, is_within, is_within_limits}
use Rattle.spec_text.specs.Numbers.{number_in}
use Rattle.spec_text.specs.Numbers.NumberWord.{Number}
use Rattle.spec_dimacs.specs.Grammar.{closed_numbers}
use Rattle.spec_max.specs.Optimum.{Instance, variables_in, clauses_in}
use Rattle.mal_instance.specs.Grammar as lits
use Rattle.mal_max.specs.Reading.{word}

-- words say soft literals: they are the numbers of literals of the formula's variables, and then a 0; 128 at most, with
-- which formula and counter are within the limits
pub record SaySofts (f : Formulated) (words : List (List ℕ)) (softs : List ℕ) : Type 0 where
  pub closed : map (λ w. number_in w f.variables) words ≡ map (λ z. Number z) (closed_numbers softs)
  pub within : is_within f.variables softs ≡ true
  pub few : length softs ≤ limits.softs
  pub limits : is_within_limits (variables_in (record { formula = f; softs = softs })) (clauses_in (record { formula = f; softs = softs })) ≡ true

-- a text spells an instance: it spells the formula, then a line of the word `w` and of words that say the soft literals
abbrev pub Spells : List ℕ → Instance → Type 0
Spells text w = lits.Spells word SaySofts text (record { formula = w.formula; literals = w.softs })
