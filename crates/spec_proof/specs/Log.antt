-- Logs of derived lines, in the order in which they were entered.
use Rattle.std.specs.Prelude.{◌≡◌, ◌≢◌, ℕ, ◌^◌, ◌<◌, ◌≤◌, List, [], ◌∷◌, length, map, Option, Some, All, Any}
use Rattle.mal_base.specs.NumberedClause.{Line}
use Rattle.spec_logic.specs.Derivation.{Holding}
use Rattle.spec_logic.specs.Refutation.{ProofLine, numbered, after_lines, IsProof}
use Rattle.spec_logic.specs.Refutation.ProofLine.{Add}

-- the line of a proof that adds a line's clause
abbrev pub added : Line → ProofLine
added line = Add line.id (Some line.lits) line.hints

abbrev pub proof_of : List Line → List ProofLine
proof_of lines = map added lines

-- a line has the number of a derived clause, and it is above all its hints
pub record IsAbove (line : Line) : Type 0 where
  pub derived : 2 ^ 32 ≤ line.id
  pub above : All (λ hint. hint < line.id) line.hints

-- no two lines have one number
abbrev pub AreApart : List Line → Type 0
AreApart [] = Unit {0}
AreApart (line ∷ lines) = All (λ other. other.id ≢ line.id) lines × AreApart lines

-- what a log keeps whatever its originals are: numbers of derived clauses, each once and above its hints
pub record IsOrderly (lines : List Line) : Type 0 where
  pub apart : AreApart lines
  pub above : All IsAbove lines

-- what is held where these are the original clauses and these lines were derived
abbrev pub holding : List (Option (List ℕ)) → List Line → Holding
holding originals lines = after_lines (numbered originals) (proof_of lines)

-- a log over original clauses: each line has a number not in use and is derived from the originals and the lines before
-- it
pub record IsLog (originals : List (Option (List ℕ))) (lines : List Line) : Type 0 where
  pub originals_below : length originals < 2 ^ 32
  pub proof : IsProof (numbered originals) (proof_of lines)
  pub above : All IsAbove lines

-- each hint of a line that is the number of a derived clause is that of a line
abbrev pub AreClosed : List Line → Type 0
AreClosed lines = All (λ line. All (λ hint. 2 ^ 32 ≤ hint → Any (λ other. other.id ≡ hint) lines) line.hints) lines
