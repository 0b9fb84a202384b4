-- What small texts say.
use Rattle.std.specs.Prelude.{◌≡◌, ℕ, List, [], ◌∷◌, ◌++◌, flat_map, replicate, Some, codes, Result, Ok, Err}
use Rattle.mal_base.specs.declared.block_fault.BlockFault.TheVariants as block
use Rattle.mal_base.specs.declared.limit_kind.LimitKind.TheVariants as limit
use Rattle.mal_base.specs.declared.line_fault.LineFault.TheVariants as line
use Rattle.spec_max.specs.Optimum.{Instance}
use Rattle.mal_instance.specs.Reading.{Fault}
use Rattle.mal_instance.specs.Reading.Fault.{NoLine, InFormula, TooMany}
use Rattle.mal_max.specs.Reading.{read_text}
use Rattle.mal_max.specs.FaultLines.{fault_line}

-- the clause 1 2
abbrev pub one : List ℕ
one = codes "p cnf 2 1\n1 2 0\n"

abbrev pub with_softs : List ℕ → Result Instance Fault
with_softs lits = Ok (record { formula = record { variables = 2; clauses = Some (2 ∷ 4 ∷ []) ∷ [] }; softs = lits })

pub record HasInputs : Type 0 where
  pub softs : read_text (one ++ codes "w -1 -2 0\n") ≡ with_softs (3 ∷ 5 ∷ [])
  pub none : read_text (one ++ codes "w 0\n") ≡ with_softs []
  pub in_order : read_text (one ++ codes "w 2 -1 2 -2 0\nc w\n\n") ≡ with_softs (4 ∷ 3 ∷ 4 ∷ 5 ∷ [])
  pub no_line : read_text (codes "p cnf x\n1 2\n") ≡ Err NoLine
  pub formula_first : read_text (codes "p cnf 3 2\n1 0\nw x\n") ≡ Err (InFormula 2 (line.Dimacs (block.ClauseCount 2 1)))
  pub not_closed : read_text (one ++ codes "w 1 -1 4\n") ≡ Err (InFormula 3 line.BadLine)
  pub out_of_range : read_text (one ++ codes "w 1 -1 4 0\n") ≡ Err (InFormula 3 line.Range)
  pub too_many : read_text (one ++ codes "w" ++ flat_map (λ lit. codes " " ++ lit) (replicate 129 (codes "-2")) ++ codes " 0\nx\n") ≡ Err (TooMany 3)
  pub variables : read_text (codes "p cnf 65536 0\nw 1 0\nx\n") ≡ Err (InFormula 2 (line.Limit limit.Variables))
  pub second_line : read_text (one ++ codes "w 1 0\nw 1 0\n") ≡ Err (InFormula 4 line.BadLine)
  pub no_line_told : fault_line NoLine ≡ codes "fault: no soft\n"
  pub range_told : fault_line (InFormula 3 line.Range) ≡ codes "fault: formula line 3 Range\n"
  pub too_many_told : fault_line (TooMany 3) ≡ codes "fault: formula line 3 Limit Softs\n"
