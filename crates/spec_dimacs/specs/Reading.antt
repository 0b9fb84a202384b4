-- Reading DIMACS CNF line by line: the formula, or the first fault with its line.
use Rattle.std.specs.Prelude.{ℕ, zero, suc, ◌+◌, ◌^◌, ◌-◌, min, max, true, false, ◌&&◌, List, [], ◌∷◌, ◌++◌, length, codes, bytes_eq, nat_lt, ◌==◌, if◌then◌else◌, ℤ, pos, negsuc, Option, Some, None, Result, Ok, Err}
use Rattle.mal_base.specs.Limits.{limits}
use Rattle.mal_base.specs.Literals.{literal}
use Rattle.mal_base.specs.Formulas.{Formulated, size_of}
use Rattle.mal_base.specs.declared.limit_kind.LimitKind.TheVariants.{Variables, Clauses, Literals}
use Rattle.spec_text.specs.Numbers.{NumberWord, is_numeral, value_of, number_in}
use Rattle.spec_text.specs.Numbers.NumberWord.{NotANumber, TooLarge, Number}
use Rattle.mal_base.specs.declared.block_fault.BlockFault.{BlockFault}
use Rattle.mal_base.specs.declared.block_fault.BlockFault.TheVariants.{BadHeader, BadNumber, VarTooLarge, ClauseCount, Limit, Trailing}
use Rattle.mal_base.specs.declared.stage.Stage.{Stage}
use Rattle.mal_base.specs.declared.stage.Stage.TheVariants as stage
use Rattle.spec_dimacs.specs.Rows.{is_comment, is_passed, rows_of}
use Rattle.spec_dimacs.specs.Merged.{clause_of}

-- a block of which some lines are read: the variables and the number of clauses that its header declares, the closed
-- clauses (the first ones, at most as many as are declared), the number of closed clauses, the number of their
-- literals, the literals after the last 0, and where the reader is
pub record Block : Type 0 where
  pub variables : ℕ
  pub declared : ℕ
  pub clauses : List (Option (List ℕ))
  pub found : ℕ
  pub literals : ℕ
  pub pending : List ℕ
  pub stage : Stage

-- what is done with an answer, where it is no fault
infixl 10 ◌>>=◌
abbrev pub ◌>>=◌ : {A B E : Type 0} → Result A E → (A → Result B E) → Result B E
(Ok x) >>= f = f x
(Err e) >>= f = Err e

-- the code of the literal that a number stands for
abbrev pub code_of : ℤ → ℕ
code_of (pos var) = literal var true
code_of (negsuc n) = literal (suc n) false

-- a count rises to the end of 64 bits and stands still there
abbrev pub counted : ℕ → ℕ
counted n = min (suc n) (2 ^ 64 - 1)

-- the clause is closed: it is kept where it is one of those declared
abbrev pub with_clause : Option (List ℕ) → Block → Block
with_clause clause b = record b {
  clauses = if nat_lt (length b.clauses) b.declared then b.clauses ++ clause ∷ [] else b.clauses;
  found = counted b.found;
  literals = b.literals + size_of clause;
  pending = [];
}

-- the literals after the last 0 are closed to a clause; all closed clauses have no more literals than are served
abbrev pub closed : Option (List ℕ) → Block → Result Block BlockFault
closed clause b = if nat_lt limits.literals (b.literals + size_of clause) then Err (Limit Literals) else Ok (with_clause clause b)

-- after a word that says this: a literal, or the 0 that closes a clause
abbrev pub after_number : NumberWord → Block → Result Block BlockFault
after_number NotANumber b = Err BadNumber
after_number TooLarge b = Err VarTooLarge
after_number (Number (pos zero)) b = closed (clause_of b.pending) b
after_number (Number z) b = Ok (record b { pending = b.pending ++ code_of z ∷ [] })

-- after the words of a line, from left to right
abbrev pub after_words : List (List ℕ) → Block → Result Block BlockFault
after_words [] b = Ok b
after_words (word ∷ words) b = after_number (number_in word b.variables) b >>= after_words words

-- the line `%` has no other word
abbrev pub after_percent : List (List ℕ) → Block → Result Block BlockFault
after_percent [] b = Ok (record b { stage = stage.Percent })
after_percent (word ∷ words) b = Err Trailing

-- after the line `%` a line of the one word `0` may stand
abbrev pub after_zero : List ℕ → List (List ℕ) → Block → Result Block BlockFault
after_zero first [] b = if bytes_eq first (codes "0") then Ok (record b { stage = stage.Zero }) else Err Trailing
after_zero first (word ∷ words) b = Err Trailing

-- after a line that counts and does not begin with `p`
abbrev pub after_counted : Stage → List ℕ → List (List ℕ) → Block → Result Block BlockFault
after_counted stage.Clauses first others b = if bytes_eq first (codes "%") then after_percent others b else after_words (first ∷ others) b
after_counted stage.Percent first others b = after_zero first others b
after_counted stage.Zero first others b = Err Trailing

-- after the words of a line after the header
abbrev pub after_row : List (List ℕ) → Block → Result Block BlockFault
after_row [] b = Ok b
after_row (first ∷ others) b = if is_comment first then Ok b else if bytes_eq first (codes "p") then Err BadHeader else after_counted b.stage first others b

-- after lines, one after another
abbrev pub after_rows : List (List (List ℕ)) → Block → Result Block BlockFault
after_rows [] b = Ok b
after_rows (row ∷ rows) b = after_row row b >>= after_rows rows

-- the block after a header of these numbers
abbrev pub block_of : ℕ → ℕ → Block
block_of variables declared = record { variables = variables; declared = declared; clauses = []; found = 0; literals = 0; pending = []; stage = stage.Clauses }

-- no more variables, and then no more clauses, than are served
abbrev pub within_limits : ℕ → ℕ → Result Block BlockFault
within_limits variables declared = if nat_lt limits.variables variables then Err (Limit Variables) else if nat_lt limits.clauses declared then Err (Limit Clauses) else Ok (block_of variables declared)

-- the two numbers of a header
abbrev pub opened_with : List ℕ → List ℕ → Result Block BlockFault
opened_with v c = if is_numeral v && is_numeral c then within_limits (value_of v) (value_of c) else Err BadHeader

-- the block after the words of a header
abbrev pub opened : List (List ℕ) → Result Block BlockFault
opened (p ∷ cnf ∷ v ∷ c ∷ []) = if bytes_eq p (codes "p") && bytes_eq cnf (codes "cnf") then opened_with v c else Err BadHeader
opened words = Err BadHeader

-- the formula of a whole block
abbrev pub formula_of : List ℕ → Block → Result Formulated BlockFault
formula_of [] b = Ok (record { variables = b.variables; clauses = b.clauses })
formula_of (lit ∷ lits) b = Err Trailing

-- the end of a block: the clauses are as many as declared, and no literals are left after them
abbrev pub ended : Block → Result Formulated BlockFault
ended b = if b.found == b.declared then formula_of b.pending b else Err (ClauseCount b.declared b.found)

-- the same with a block where there is one
abbrev pub as_some : Result Block BlockFault → Result (Option Block) BlockFault
as_some (Ok b) = Ok (Some b)
as_some (Err fault) = Err fault

-- after the words of a line of a text, of which the header may have been read
abbrev pub after_line : List (List ℕ) → Option Block → Result (Option Block) BlockFault
after_line row None = if is_passed row then Ok None else as_some (opened row)
after_line row (Some b) = as_some (after_row row b)

-- the end of a text, which has a header
abbrev pub at_end : Option Block → Result Formulated BlockFault
at_end None = Err BadHeader
at_end (Some b) = ended b

-- a fault with its line
abbrev pub on_line : {A : Type 0} → ℕ → Result A BlockFault → Result A (ℕ × BlockFault)
on_line line (Ok x) = Ok x
on_line line (Err fault) = Err (line, fault)

-- the lines that are left, after so many lines; a fault at the end is named with the last line, 1 where there is none
abbrev pub read_rows : List (List (List ℕ)) → ℕ → Option Block → Result Formulated (ℕ × BlockFault)
read_rows [] line state = on_line (max 1 line) (at_end state)
read_rows (row ∷ rows) line state = on_line (suc line) (after_line row state) >>= read_rows rows (suc line)

-- the formula of a text, or its first fault with its line
abbrev pub read_text : List ℕ → Result Formulated (ℕ × BlockFault)
read_text text = read_rows (rows_of text) 0 None
