-- Reading a formula and the line of assumptions after it: the instance, or the first fault.
use Rattle.std.specs.Prelude.{ℕ, List, codes, Result, Ok}
use Rattle.mal_base.specs.Limits.{limits}
use Rattle.mal_base.specs.Formulas.{Formulated}
use Rattle.spec_dimacs.specs.Reading.{◌>>=◌}
use Rattle.spec_script.specs.Assumptions.{assumptions_in}
use Rattle.spec_core.specs.Core.{Instance}
use Rattle.mal_instance.specs.Reading as lits
use Rattle.mal_instance.specs.Reading.{Fault, LitsFault, wrong, at_most}

-- the word that the line of assumptions begins with
abbrev pub word : List ℕ
word = codes "a"

-- the assumptions of the words after that one: 255 at most, after which repeats are merged
abbrev pub assumptions_of : Formulated → List (List ℕ) → Result (List ℕ) LitsFault
assumptions_of f words = wrong (assumptions_in f.variables words) >>= at_most limits.assumptions

abbrev pub instance_of : lits.Instance → Instance
instance_of w = record { formula = w.formula; assumptions = w.literals }

-- the instance of a text, or its first fault
abbrev pub read_text : List ℕ → Result Instance Fault
read_text text = lits.read_text word assumptions_of text >>= λ w. Ok (instance_of w)
