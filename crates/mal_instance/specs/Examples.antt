-- What small texts say.
use Rattle.std.specs.Prelude.{◌≡◌, ℕ, List, [], ◌∷◌, ◌++◌, Some, codes, Result, Ok, Err}
use Rattle.mal_base.specs.declared.block_fault.BlockFault.TheVariants as block
use Rattle.mal_base.specs.declared.line_fault.LineFault.TheVariants as line
use Rattle.spec_dimacs.specs.Reading.{◌>>=◌}
use Rattle.spec_script.specs.Assumptions.{assumptions_in}
use Rattle.mal_instance.specs.Reading.{Instance, Fault, LitsReading, wrong, at_most, read_text}
use Rattle.mal_instance.specs.Reading.Fault.{NoLine, InFormula, TooMany}
use Rattle.mal_instance.specs.FaultLines.{fault_line}

-- two assumptions at most, after the word `a`
abbrev pub two : LitsReading
two f words = wrong (assumptions_in f.variables words) >>= at_most 2

abbrev pub said : List ℕ → Result Instance Fault
said text = read_text (codes "a") two text

-- the clause 1 -2 of three variables
abbrev pub one : List ℕ
one = codes "p cnf 3 1\n1 -2 0\n"

abbrev pub with_literals : List ℕ → Result Instance Fault
with_literals lits = Ok (record { formula = record { variables = 3; clauses = Some (2 ∷ 5 ∷ []) ∷ [] }; literals = lits })

abbrev pub told : Fault → List ℕ
told fault = fault_line (codes "assumptions") (codes "Assumptions") fault

pub record HasExamples : Type 0 where
  pub none : said (one ++ codes "a 0\n") ≡ with_literals []
  pub merged : said (one ++ codes "a 2 -1 2 0") ≡ with_literals (3 ∷ 4 ∷ [])
  pub passed_after : said (one ++ codes "c a\n a 1 0\n\nc a 2 0\n") ≡ with_literals (2 ∷ [])
  pub no_line : said one ≡ Err NoLine
  pub no_line_first : said (codes "p dnf\nab 0\n") ≡ Err NoLine
  pub formula_first : said (codes "p cnf 3 1\n4 0\na x\n") ≡ Err (InFormula 2 (line.Dimacs block.VarTooLarge))
  pub formula_ends : said (codes "p cnf 3 2\n1 0\n\na 1 0\n") ≡ Err (InFormula 3 (line.Dimacs (block.ClauseCount 2 1)))
  pub no_formula : said (codes "a 0\np cnf 0 0\n") ≡ Err (InFormula 1 (line.Dimacs block.BadHeader))
  pub bad_line : said (one ++ codes "a 4 1 -1 x\nx\n") ≡ Err (InFormula 3 line.BadLine)
  pub not_closed : said (one ++ codes "a 1\n") ≡ Err (InFormula 3 line.BadLine)
  pub out_of_range : said (one ++ codes "a 4 1 -1 0\n") ≡ Err (InFormula 3 line.Range)
  pub opposite : said (one ++ codes "a 3 2 1 -2 -1 0\n") ≡ Err (InFormula 3 (line.Opposite 1))
  pub too_many : said (one ++ codes "a 1 2 3 0\nx\n") ≡ Err (TooMany 3)
  pub line_after : said (one ++ codes "a 1 0\n\nx\n") ≡ Err (InFormula 5 line.BadLine)
  pub second_line : said (one ++ codes "a 1 0\na 1 0\n") ≡ Err (InFormula 4 line.BadLine)
  pub no_line_told : told NoLine ≡ codes "fault: no assumptions\n"
  pub fault_told : told (InFormula 3 (line.Opposite 1)) ≡ codes "fault: formula line 3 Opposite 1\n"
  pub too_many_told : told (TooMany 3) ≡ codes "fault: formula line 3 Limit Assumptions\n"
