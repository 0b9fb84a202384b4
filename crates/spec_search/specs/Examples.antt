use Rattle.std.specs.Prelude.{◌≡◌, ℕ, ◌+◌, ◌^◌, true, false, List, [], ◌∷◌, ◌++◌, map, Some, None}
use Rattle.mal_base.specs.NumberedClause.{Line}
use Rattle.mal_base.specs.declared.verdict.Verdict.TheVariants.{Satisfiable, Unsatisfiable}
use Rattle.mal_revision.specs.Posted.{Posted}
use Rattle.spec_node.specs.State.{Node, fresh}
use Rattle.spec_node.specs.Load.{loaded, numbered, counted}
use Rattle.spec_search.specs.Slice.{Sliced, steps, steps_from}

-- a revision of so many variables without clauses
abbrev pub bare : ℕ → Posted
bare v = record { variables = v; clauses = []; assumptions = [] }

-- two variables, one of which has to be true
abbrev pub one_of_two : Posted
one_of_two = record { variables = 2; clauses = Some (2 ∷ 4 ∷ []) ∷ []; assumptions = [] }

-- a variable that has to be true and false
abbrev pub at_odds : Posted
at_odds = record { variables = 1; clauses = Some (2 ∷ []) ∷ Some (3 ∷ []) ∷ []; assumptions = [] }

-- the clauses 1 2, 1 -2 and -1 2
abbrev pub three : Posted
three = record { variables = 2; clauses = Some (2 ∷ 4 ∷ []) ∷ Some (2 ∷ 5 ∷ []) ∷ Some (3 ∷ 4 ∷ []) ∷ []; assumptions = [] }

-- these and -1 -2
abbrev pub four : Posted
four = record { variables = 2; clauses = Some (2 ∷ 4 ∷ []) ∷ Some (2 ∷ 5 ∷ []) ∷ Some (3 ∷ 4 ∷ []) ∷ Some (3 ∷ 5 ∷ []) ∷ []; assumptions = [] }

-- so many steps of the node of an index at its first start, with a revision loaded
abbrev pub begun : ℕ → Posted → ℕ → Sliced
begun k r i = steps k (loaded r 1 (fresh i))

-- the literals of a node's trail
abbrev pub literals : Node → List ℕ
literals n = map (λ e. e.lit) n.trail

-- the numbers of lines
abbrev pub ids : List Line → List ℕ
ids lines = map (λ l. l.id) lines

-- worked examples of loading
pub record HasLoads : Type 0 where
  pub turned : (loaded (bare 10) 1 (fresh 33)).order ≡ 6 ∷ 7 ∷ 8 ∷ 9 ∷ 10 ∷ 1 ∷ 2 ∷ 3 ∷ 4 ∷ 5 ∷ []
  pub turned_by_one : (loaded (bare 64) 1 (fresh 1)).order ≡ counted 2 63 ++ 1 ∷ []
  pub odd_phases : (loaded (bare 3) 1 (fresh 33)).phases ≡ true ∷ true ∷ true ∷ []
  pub even_order : (loaded (bare 3) 1 (fresh 0)).order ≡ 1 ∷ 2 ∷ 3 ∷ []
  pub even_phases : (loaded (bare 3) 1 (fresh 0)).phases ≡ false ∷ false ∷ false ∷ []
  pub tautology_keeps_its_number : numbered 1 (None ∷ Some (4 ∷ []) ∷ []) ≡ record { id = 2; lits = 4 ∷ [] } ∷ []

-- worked examples of steps without a conflict
pub record HasSteps : Type 0 where
  pub empty_formula_ends : (begun 2 (bare 0) 0).node.verdict ≡ Some Satisfiable
  pub empty_formula_needs_two : (begun 1 (bare 0) 0).node.verdict ≡ None
  pub two_variables : literals (begun 1000 one_of_two 0).node ≡ 3 ∷ 4 ∷ []
  pub two_variables_end : (begun 1000 one_of_two 0).node.verdict ≡ Some Satisfiable
  pub nothing_derived : (begun 1000 one_of_two 0).lines ≡ []
  pub odd_node : literals (begun 1000 one_of_two 1).node ≡ 2 ∷ 4 ∷ []
  pub twenty_two_steps : (begun 22 (bare 10) 0).node.verdict ≡ Some Satisfiable
  pub not_twenty_one : (begun 21 (bare 10) 0).node.verdict ≡ None

-- worked examples of learning: a unit clause is learned and the search goes on, clauses are refuted by two lines, at
-- once, and at another node; a slice whose room is nearly used up ends before the line
pub record HasLines : Type 0 where
  pub learns : (begun 1000 three 0).lines ≡ record { id = 2 ^ 32; lits = 2 ∷ []; hints = 1 ∷ 2 ∷ [] } ∷ []
  pub goes_on : literals (begun 1000 three 0).node ≡ 2 ∷ 4 ∷ []
  pub order : (begun 1000 three 0).node.order ≡ 1 ∷ 2 ∷ []
  pub refutes : (begun 1000 four 0).lines ≡ record { id = 2 ^ 32; lits = 2 ∷ []; hints = 1 ∷ 2 ∷ [] } ∷ record { id = 2 ^ 32 + 64; lits = []; hints = 2 ^ 32 ∷ 3 ∷ 4 ∷ [] } ∷ []
  pub goal : (begun 1000 four 0).node.verdict ≡ Some (Unsatisfiable (2 ^ 32 + 64))
  pub at_once : (begun 1000 at_odds 0).lines ≡ record { id = 2 ^ 32; lits = []; hints = 1 ∷ 2 ∷ [] } ∷ []
  pub conflict_stays : (begun 1000 at_odds 0).node.conflict ≡ Some 2
  pub third_node : ids (begun 1000 four 3).lines ≡ 4294967299 ∷ 4294967363 ∷ []
  pub waits : (steps_from 1000 65539 (loaded four 1 (fresh 0))).lines ≡ record { id = 2 ^ 32; lits = 2 ∷ []; hints = 1 ∷ 2 ∷ [] } ∷ []
  pub room_is_used : (steps_from 1000 65540 (loaded four 1 (fresh 0))).lines ≡ []

-- all of them
pub record HasExamples : Type 0 where
  pub loads : HasLoads
  pub steps_made : HasSteps
  pub lines : HasLines
