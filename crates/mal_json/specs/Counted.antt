-- The steps of a job that are read, with what its revisions hold.
use Rattle.std.specs.Prelude.{◌≡◌, ℕ, ◌≤◌, List}
use Rattle.mal_base.specs.Limits.{limits}
use Rattle.spec_script.specs.Script.{revisions_in}
use Rattle.spec_script.specs.declared.step.Step.{Step}
use Rattle.spec_script.specs.Formed.{clauses_of, clause_literals}

-- so many clauses and literals the revisions of the steps have, no more than are served
pub record IsCounted (steps : List Step) (clauses literals : ℕ) : Type 0 where
  pub clause_count : clauses ≡ clauses_of (revisions_in steps)
  pub literal_count : literals ≡ clause_literals (revisions_in steps)
  pub few_clauses : clauses ≤ limits.clauses
  pub few_literals : literals ≤ limits.literals
