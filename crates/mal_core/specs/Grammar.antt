-- The grammar of a formula and the line of assumptions after it: which instance a text spells.
use Rattle.std.specs.Prelude.{ℕ, ◌≤◌, List, length}
use Rattle.mal_base.specs.Limits.{limits}
use Rattle.mal_base.specs.Formulas.{Formulated}
use Rattle.spec_script.specs.Grammar.{Assumes}
use Rattle.spec_core.specs.Core.{Instance}
use Rattle.mal_instance.specs.Grammar as lits
use Rattle.mal_core.specs.Reading.{word}

-- words say assumptions of the formula's variables, 255 at most
abbrev pub SayAssumptions : Formulated → List (List ℕ) → List ℕ → Type 0
SayAssumptions f words assumptions = Assumes f.variables words assumptions × (length assumptions ≤ limits.assumptions)

-- a text spells an instance: it spells the formula, then a line of the word `a` and of words that say the assumptions
abbrev pub Spells : List ℕ → Instance → Type 0
Spells text w = lits.Spells word SayAssumptions text (record { formula = w.formula; literals = w.assumptions })
