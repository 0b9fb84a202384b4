-- Small texts with the formula that they spell or their first fault.
use Rattle.std.specs.Prelude.{◌≡◌, ℕ, List, [], ◌∷◌, codes, Option, Some, None, Ok, Err}
use Rattle.mal_base.specs.Formulas.{Formulated}
use Rattle.mal_base.specs.declared.limit_kind.LimitKind.TheVariants.{Variables, Clauses}
use Rattle.mal_base.specs.declared.block_fault.BlockFault.TheVariants.{BadHeader, BadNumber, VarTooLarge, ClauseCount, Limit, Trailing}
use Rattle.spec_dimacs.specs.Reading.{read_text}
use Rattle.spec_dimacs.specs.Written.{spelling}

-- a formula of these parts
abbrev pub formula : ℕ → List (Option (List ℕ)) → Formulated
formula variables clauses = record { variables = variables; clauses = clauses }

-- texts that spell formulas; a literal is written by its code: 2 and 3 are 1 and -1
pub record SpelledExamples : Type 0 where
  pub tautology_keeps_its_number : read_text (codes "p cnf 2 2\n1 -1 0\n2 0\n") ≡ Ok (formula 2 (None ∷ Some (4 ∷ []) ∷ []))
  pub clause_over_two_lines : read_text (codes "c made by a tool\np cnf 2 1\n-2\n1 0\n") ≡ Ok (formula 2 (Some (2 ∷ 5 ∷ []) ∷ []))
  pub carriage_returns : read_text (codes "p cnf 1 1\r\n1 0\r\n") ≡ Ok (formula 1 (Some (2 ∷ []) ∷ []))
  pub percent_and_zero : read_text (codes "p cnf 1 1\n1 0\n%\n0\n\n") ≡ Ok (formula 1 (Some (2 ∷ []) ∷ []))
  pub repeated_literal : read_text (codes "p cnf 2 1\n1 2 1 0") ≡ Ok (formula 2 (Some (2 ∷ 4 ∷ []) ∷ []))
  pub leading_zeros : read_text (codes "p cnf 01 2\n01 00 -1 0") ≡ Ok (formula 1 (Some (2 ∷ []) ∷ Some (3 ∷ []) ∷ []))
  pub no_clause : read_text (codes "p cnf 0 0") ≡ Ok (formula 0 [])
  pub no_literal : read_text (codes "p cnf 0 1\n0") ≡ Ok (formula 0 (Some [] ∷ []))
  pub written : spelling (formula 2 (None ∷ Some (3 ∷ 4 ∷ []) ∷ [])) ≡ codes "p cnf 2 2\n1 -1 0\n-1 2 0\n"

-- texts with a fault at their first line, or without a header
pub record HeaderExamples : Type 0 where
  pub no_text : read_text [] ≡ Err (1, BadHeader)
  pub comments_alone : read_text (codes "c\n\nc") ≡ Err (3, BadHeader)
  pub wrong_word : read_text (codes "p dnf 1 1") ≡ Err (1, BadHeader)
  pub clause_before_header : read_text (codes "c\n1 0") ≡ Err (2, BadHeader)
  pub negative_before_limit : read_text (codes "p cnf 70000 -1") ≡ Err (1, BadHeader)
  pub too_negative : read_text (codes "p cnf -99999 0") ≡ Err (1, BadHeader)
  pub too_many_variables : read_text (codes "p cnf 65537 1048577") ≡ Err (1, Limit Variables)
  pub too_many_clauses : read_text (codes "p cnf 65536 1048577") ≡ Err (1, Limit Clauses)
  pub header_after_clauses : read_text (codes "p cnf 1 2\n1 0\np cnf 1 2") ≡ Err (3, BadHeader)
  pub header_after_percent : read_text (codes "p cnf 1 0\n%\np cnf 1 0") ≡ Err (3, BadHeader)

-- texts with a fault at a line of the clauses or at the end
pub record FaultExamples : Type 0 where
  pub plus : read_text (codes "p cnf 1 1\n+1 0") ≡ Err (2, BadNumber)
  pub minus_zero : read_text (codes "p cnf 1 1\n1 -0") ≡ Err (2, BadNumber)
  pub first_word_counts : read_text (codes "p cnf 1 1\n2 x 0\n+") ≡ Err (2, VarTooLarge)
  pub variable_too_large : read_text (codes "p cnf 2 2\n1 0\n3 0\n") ≡ Err (3, VarTooLarge)
  pub number_too_large : read_text (codes "p cnf 2 1\n99999999999999999999 0") ≡ Err (2, VarTooLarge)
  pub clause_missing : read_text (codes "p cnf 2 2\n1 0\n\n") ≡ Err (3, ClauseCount 2 1)
  pub clause_too_many : read_text (codes "p cnf 1 0\n1 0 1 0 1") ≡ Err (2, ClauseCount 0 2)
  pub not_closed : read_text (codes "p cnf 1 0\n1") ≡ Err (2, Trailing)
  pub beside_percent : read_text (codes "p cnf 1 0\n% 0") ≡ Err (2, Trailing)
  pub percent_twice : read_text (codes "p cnf 1 0\n%\n%") ≡ Err (3, Trailing)
  pub only_the_word_zero : read_text (codes "p cnf 1 0\n%\n00") ≡ Err (3, Trailing)
  pub zero_twice : read_text (codes "p cnf 1 0\n%\n0\n0") ≡ Err (4, Trailing)
