-- A log that covers what a node holds.
use Rattle.std.specs.Prelude.{◌≡◌, ◌⊎◌, ℕ, ◌+◌, ◌*◌, ◌<◌, ◌^◌, All, List, Option, Some}
use Rattle.mal_base.specs.NumberedClause.{NumberedClause, Line}
use Rattle.spec_logic.specs.Refutation.{numbered}
use Rattle.spec_proof.specs.Log.{IsLog}
use Rattle.spec_proof.specs.Among.{Among, IsClosed}

-- a clause is the clause of a line of a log
abbrev pub IsOfLine : List Line → NumberedClause → Type 0
IsOfLine log c = (line : Line) × Among line log × (line.id ≡ c.id) × (line.lits ≡ c.lits)

-- a clause is an original, or the clause of a line of a log
abbrev pub IsKnown : List (Option (List ℕ)) → List Line → NumberedClause → Type 0
IsKnown clauses log c = (numbered clauses c.id ≡ Some (Some c.lits)) ⊎ IsOfLine log c

-- a log with the clauses that a node holds: it knows them, and its lines of the node's index have lesser serials
pub record Covers (clauses : List (Option (List ℕ))) (log : List Line) (index serial : ℕ) (held : List NumberedClause) : Type 0 where
  pub derived : IsLog clauses log
  pub closed : IsClosed log
  pub known : All (IsKnown clauses log) held
  pub before : (line : Line) (k : ℕ) → Among line log → line.id ≡ 2 ^ 32 + k * 64 + index → k < serial
