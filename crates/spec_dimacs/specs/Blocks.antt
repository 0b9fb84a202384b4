-- What holds of a block at each moment.
use Rattle.std.specs.Prelude.{◌≡◌, ◌≤◌, true, length}
use Rattle.std.specs.List.{list_all}
use Rattle.mal_base.specs.Limits.{limits}
use Rattle.mal_base.specs.Formulas.{is_clause_of, is_within, literals_of}
use Rattle.spec_dimacs.specs.Reading.{Block}

-- the numbers of its header are within the limits, there are at most as many clauses as declared, all of its variables,
-- and no more literals of closed clauses than are served; what waits for a 0 are literals of its variables
pub record IsBlock (b : Block) : Type 0 where
  pub few_variables : b.variables ≤ limits.variables
  pub few_declared : b.declared ≤ limits.clauses
  pub few_clauses : length b.clauses ≤ b.declared
  pub formed : list_all (is_clause_of b.variables) b.clauses ≡ true
  pub counted : literals_of b.clauses ≤ b.literals
  pub few_literals : b.literals ≤ limits.literals
  pub within : is_within b.variables b.pending ≡ true
