use Rattle.std.specs.Prelude.{◌≡◌, ℕ, ◌<◌, All, Contains, List, [], ◌∷◌, Some}
use Rattle.mal_base.specs.NumberedClause.{NumberedClause, Line}
use Rattle.spec_logic.specs.Derivation.{derivation}
use Rattle.spec_logic.specs.Derivation.Derivation.{Derived}
use Rattle.spec_node.specs.Adding.{with_clause}
use Rattle.spec_learn.specs.Learning.{holding}

-- a clause is held under this number
abbrev pub IsHeld : List NumberedClause → ℕ → Type 0
IsHeld clauses id = (c : NumberedClause) × Contains clauses c × (c.id ≡ id)

-- the clauses held with that of a line
abbrev pub with_line : List NumberedClause → Line → List NumberedClause
with_line clauses l = with_clause (record { id = l.id; lits = l.lits }) clauses

-- the clauses held with those of lines
abbrev pub with_lines : List NumberedClause → List Line → List NumberedClause
with_lines clauses [] = clauses
with_lines clauses (l ∷ ls) = with_lines (with_line clauses l) ls

-- a line is derived from the clauses held along its hints, which are held, under a number above all of theirs
pub record IsDerivedFrom (clauses : List NumberedClause) (l : Line) : Type 0 where
  pub derived : derivation (holding clauses) (Some l.lits) l.hints ≡ Derived
  pub hints : All (IsHeld clauses) l.hints
  pub above : All (λ c. c.id < l.id) clauses

-- each line is derived from the clauses held at first and those of the lines before it
abbrev pub AreDerivedFrom : List NumberedClause → List Line → Type 0
AreDerivedFrom clauses [] = Unit {0}
AreDerivedFrom clauses (l ∷ ls) = IsDerivedFrom clauses l × AreDerivedFrom (with_line clauses l) ls
