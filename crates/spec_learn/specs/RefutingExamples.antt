use Rattle.std.specs.Prelude.{◌≡◌, ◌^◌, List, [], ◌∷◌, Some, None}
use Rattle.mal_base.specs.NumberedClause.{NumberedClause}
use Rattle.mal_base.specs.declared.trail_entry.TrailEntry.{TrailEntry}
use Rattle.mal_base.specs.declared.verdict.Verdict.TheVariants.{Unsatisfiable}
use Rattle.spec_node.specs.State.{Node, fresh}
use Rattle.spec_learn.specs.Refuting.{core_line, cored}

-- a node of three variables that assumes 1 and 2, with a trail and clauses
abbrev pub assuming : List TrailEntry → List NumberedClause → Node
assuming trail clauses = record (fresh 0) { variables = 3; assumptions = 2 ∷ 4 ∷ []; trail = trail; clauses = clauses }

-- the decision 1 forced -2 by -1 -2
abbrev pub at_once : Node
at_once = assuming (record { lit = 2; reason = None; level = 1 } ∷ record { lit = 5; reason = Some 1; level = 1 } ∷ []) (record { id = 1; lits = 3 ∷ 5 ∷ [] } ∷ [])

-- the decision 1 forced 3 by -1 3, and that -2 by -2 -3
abbrev pub by_two : Node
by_two = assuming (record { lit = 2; reason = None; level = 1 } ∷ record { lit = 6; reason = Some 1; level = 1 } ∷ record { lit = 5; reason = Some 2; level = 1 } ∷ []) (record { id = 1; lits = 3 ∷ 6 ∷ [] } ∷ record { id = 2; lits = 5 ∷ 7 ∷ [] } ∷ [])

-- 3 holds at level 0, and the decision 1 forced -2 by -1 -2 -3
abbrev pub from_zero : Node
from_zero = assuming (record { lit = 6; reason = Some 1; level = 0 } ∷ record { lit = 2; reason = None; level = 1 } ∷ record { lit = 5; reason = Some 2; level = 1 } ∷ []) (record { id = 1; lits = 6 ∷ [] } ∷ record { id = 2; lits = 3 ∷ 5 ∷ 7 ∷ [] } ∷ [])

-- -1 holds at level 0
abbrev pub at_zero : Node
at_zero = assuming (record { lit = 3; reason = Some 1; level = 0 } ∷ []) (record { id = 1; lits = 3 ∷ [] } ∷ [])

-- worked examples: the lines of four failed assumptions, and what a node then holds
pub record HasRefutingExamples : Type 0 where
  pub one_reason : core_line 4 at_once ≡ record { id = 2 ^ 32; lits = 3 ∷ 5 ∷ []; hints = 1 ∷ [] }
  pub two_reasons : core_line 4 by_two ≡ record { id = 2 ^ 32; lits = 3 ∷ 5 ∷ []; hints = 1 ∷ 2 ∷ [] }
  pub without_level_0 : core_line 4 from_zero ≡ record { id = 2 ^ 32; lits = 3 ∷ 5 ∷ []; hints = 1 ∷ 2 ∷ [] }
  pub alone : core_line 2 at_zero ≡ record { id = 2 ^ 32; lits = 3 ∷ []; hints = 1 ∷ [] }
  pub verdict : (cored 4 at_once).verdict ≡ Some (Unsatisfiable (2 ^ 32))
  pub held : (cored 4 at_once).clauses ≡ record { id = 1; lits = 3 ∷ 5 ∷ [] } ∷ record { id = 2 ^ 32; lits = 3 ∷ 5 ∷ [] } ∷ []
