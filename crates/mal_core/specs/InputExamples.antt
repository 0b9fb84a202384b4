-- What small texts say.
use Rattle.std.specs.Prelude.{◌≡◌, ℕ, List, [], ◌∷◌, ◌++◌, Some, codes, Result, Ok, Err}
use Rattle.mal_base.specs.declared.block_fault.BlockFault.TheVariants as block
use Rattle.mal_base.specs.declared.line_fault.LineFault.TheVariants as line
use Rattle.spec_core.specs.Core.{Instance}
use Rattle.mal_instance.specs.Reading.{Fault}
use Rattle.mal_instance.specs.Reading.Fault.{NoLine, InFormula, TooMany}
use Rattle.mal_core.specs.Reading.{read_text}
use Rattle.mal_core.specs.FaultLines.{fault_line}

-- the clause -1 -2 of three variables
abbrev pub one : List ℕ
one = codes "p cnf 3 1\n-1 -2 0\n"

abbrev pub with_assumptions : List ℕ → Result Instance Fault
with_assumptions lits = Ok (record { formula = record { variables = 3; clauses = Some (3 ∷ 5 ∷ []) ∷ [] }; assumptions = lits })

pub record HasInputs : Type 0 where
  pub assumed : read_text (one ++ codes "a 1 2 3 0\n") ≡ with_assumptions (2 ∷ 4 ∷ 6 ∷ [])
  pub none : read_text (one ++ codes "a 0\n") ≡ with_assumptions []
  pub merged : read_text (one ++ codes "a 3 1 3 0\nc a\n\n") ≡ with_assumptions (2 ∷ 6 ∷ [])
  pub no_line : read_text (codes "p cnf x\n1 2\n") ≡ Err NoLine
  pub formula_first : read_text (codes "p cnf 3 2\n1 0\na x\n") ≡ Err (InFormula 2 (line.Dimacs (block.ClauseCount 2 1)))
  pub not_closed : read_text (one ++ codes "a 1 -1 4\n") ≡ Err (InFormula 3 line.BadLine)
  pub out_of_range : read_text (one ++ codes "a 1 -1 4 0\n") ≡ Err (InFormula 3 line.Range)
  pub opposite : read_text (one ++ codes "a 2 1 -1 -2 0\nx\n") ≡ Err (InFormula 3 (line.Opposite 1))
  pub second_line : read_text (one ++ codes "a 1 0\na 1 0\n") ≡ Err (InFormula 4 line.BadLine)
  pub no_line_told : fault_line NoLine ≡ codes "fault: no assumptions\n"
  pub opposite_told : fault_line (InFormula 3 (line.Opposite 1)) ≡ codes "fault: formula line 3 Opposite 1\n"
  pub too_many_told : fault_line (TooMany 3) ≡ codes "fault: formula line 3 Limit Assumptions\n"
