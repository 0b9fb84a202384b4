use Rattle.std.specs.Prelude.{ℕ, Bool, ◌&&◌, List, Option}
use Rattle.std.specs.List.{list_all}
use Rattle.mal_base.specs.Clauses.{rises}
use Rattle.mal_base.specs.Formulas.{is_within, is_clause_of, is_within_limits}

-- a revision as it is posted: its variables, its clauses (none stands for a tautology) and its assumptions
pub record Posted : Type 0 where
  pub variables : ℕ
  pub clauses : List (Option (List ℕ))
  pub assumptions : List ℕ

-- clauses and assumptions of the revision's own variables, within the limits; the assumptions rise by variable
abbrev pub is_posted : Posted → Bool
is_posted r = (is_within_limits r.variables r.clauses && list_all (is_clause_of r.variables) r.clauses) && (rises r.assumptions && is_within r.variables r.assumptions)
