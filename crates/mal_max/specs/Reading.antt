-- Reading a formula and the line of soft literals after it: the instance, or the first fault.
use Rattle.std.specs.Prelude.{ℕ, false, List, [], length, map, codes, nat_lt, if◌then◌else◌, Result, Ok, Err}
use Rattle.mal_base.specs.Limits.{limits}
use Rattle.mal_base.specs.Formulas.{Formulated, literals_of}
use Rattle.mal_base.specs.declared.limit_kind.LimitKind.TheVariants.{Variables, Clauses, Literals}
use Rattle.mal_base.specs.declared.line_fault.LineFault.TheVariants.{Limit}
use Rattle.spec_text.specs.Numbers.{number_in}
use Rattle.spec_dimacs.specs.Reading.{◌>>=◌}
use Rattle.spec_script.specs.Assumptions.{literals_from}
use Rattle.spec_max.specs.Optimum.{Instance, variables_in, clauses_in}
use Rattle.mal_instance.specs.Reading as lits
use Rattle.mal_instance.specs.Reading.{Fault, LitsFault, Wrong, wrong, at_most}

-- the word that the line of soft literals begins with
abbrev pub word : List ℕ
word = codes "w"

-- soft literals with which formula and counter are within the limits; else the first limit that they pass
abbrev pub limited : Instance → Result (List ℕ) LitsFault
limited w =
    if nat_lt limits.variables (variables_in w) then Err (Wrong (Limit Variables))
    else if nat_lt limits.clauses (length (clauses_in w)) then Err (Wrong (Limit Clauses))
    else if nat_lt limits.literals (literals_of (clauses_in w)) then Err (Wrong (Limit Literals))
    else Ok w.softs

-- the literals of the words after that one, in their order and with repeats: 128 at most
abbrev pub literals_in : Formulated → List (List ℕ) → Result (List ℕ) LitsFault
literals_in f words = wrong (literals_from [] false (map (λ w. number_in w f.variables) words)) >>= at_most limits.softs

-- soft literals are those with which the limits are kept
abbrev pub softs_of : Formulated → List (List ℕ) → Result (List ℕ) LitsFault
softs_of f words = literals_in f words >>= λ softs. limited (record { formula = f; softs = softs })

abbrev pub instance_of : lits.Instance → Instance
instance_of w = record { formula = w.formula; softs = w.literals }

-- the instance of a text, or its first fault
abbrev pub read_text : List ℕ → Result Instance Fault
read_text text = lits.read_text word softs_of text >>= λ w. Ok (instance_of w)
