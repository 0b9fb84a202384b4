-- What small optima are written as.
use Rattle.std.specs.Prelude.{◌≡◌, true, false, List, [], ◌∷◌, codes, Some, None}
use Rattle.mal_base.specs.NumberedClause.{Line}
use Rattle.spec_course.specs.Course.{Spent, Starved}
use Rattle.spec_max.specs.Optimum.{Solution, Best, NoModel, Unknown}
use Rattle.mal_max.specs.Texts.{optimum_text}

-- of two variables the second alone is true, at cost 1
abbrev pub second : Solution
second = record { model = false ∷ true ∷ []; cost = 1 }

-- no variables, at no cost
abbrev pub nothing : Solution
nothing = record { model = []; cost = 0 }

-- a proof of two lines
abbrev pub lines : List Line
lines = record { id = 7; lits = 10 ∷ []; hints = 3 ∷ 4 ∷ 1 ∷ 2 ∷ [] } ∷ record { id = 8; lits = 10 ∷ []; hints = 7 ∷ [] } ∷ []

-- the empty clause, of two clauses
abbrev pub conflict : List Line
conflict = record { id = 3; lits = []; hints = 1 ∷ 2 ∷ [] } ∷ []

-- optima and their texts
pub record HasTexts : Type 0 where
  pub best : optimum_text (Best second lines) ≡ codes "s OPTIMUM FOUND\no 1\nv -1 2 0\nl 7 5 0 3 4 1 2 0\nl 8 5 0 7 0\n"
  pub free : optimum_text (Best nothing []) ≡ codes "s OPTIMUM FOUND\no 0\nv 0\n"
  pub none : optimum_text (NoModel conflict) ≡ codes "s UNSATISFIABLE\nl 3 0 1 2 0\n"
  pub spent : optimum_text (Unknown None (Spent 1)) ≡ codes "s UNKNOWN\nu spent 1\n"
  pub starved : optimum_text (Unknown None Starved) ≡ codes "s UNKNOWN\nu starved 3\n"
  pub so_far : optimum_text (Unknown (Some second) (Spent 4)) ≡ codes "s UNKNOWN\nu spent 4\no 1\nv -1 2 0\n"
