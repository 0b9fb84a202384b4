use Rattle.std.specs.Prelude.{◌≡◌, ℕ, ◌+◌, ◌≤◌, max, List, [], ◌∷◌, length, map}
use Rattle.std.specs.Borrow.{Bor}
use Rattle.mal_base.specs.Formulas.{literals_of}
use Rattle.mal_revision.specs.Posted.{Posted}
use Rattle.spec_node.specs.State.{Node}
use Rattle.spec_node.specs.Load.{loaded, added}
use Rattle.spec_node.specs.Laws.{AreNewNumbers}
use Rattle.spec_search.specs.Slice.{most_numbers}
use Rattle.mal_base.specs.NumberedClause.{NumberedClause}
use Rattle.mal_cdcl.specs.Within.{NodeWithRoom}
use Rattle.mal_cdcl.specs.ImportSizes.{import_clauses, import_literals}

-- revisions, each with the number of its first clause, as they are lent
abbrev pub posted : List (Bor Posted × ℕ) → List (Posted × ℕ)
posted loads = map (λ l. (l.0.now, l.1)) loads

-- a node after loading these revisions one after another
abbrev pub readied : List (Posted × ℕ) → Node → Node
readied [] n = n
readied (l ∷ ls) n = readied ls (loaded l.0 l.1 n)

-- load by load the numbers of the clauses are new
abbrev pub AreNew : List (Posted × ℕ) → Node → Type 0
AreNew [] n = Unit {0}
AreNew (l ∷ ls) n = AreNewNumbers l.0 l.1 n × AreNew ls (loaded l.0 l.1 n)

-- how many variables a node has after these loads
abbrev pub greatest : List (Posted × ℕ) → ℕ → ℕ
greatest [] variables = variables
greatest (l ∷ ls) variables = greatest ls (max variables l.0.variables)

-- the clauses of the loads, tautologies among them
abbrev pub clauses_in : List (Posted × ℕ) → ℕ
clauses_in [] = 0
clauses_in (l ∷ ls) = length l.0.clauses + clauses_in ls

-- their literals
abbrev pub literals_in : List (Posted × ℕ) → ℕ
literals_in [] = 0
literals_in (l ∷ ls) = literals_of l.0.clauses + literals_in ls

-- the most assumptions that a load has, or this many
abbrev pub most_assumptions : List (Posted × ℕ) → ℕ → ℕ
most_assumptions [] most = most
most_assumptions (l ∷ ls) most = most_assumptions ls (max most (length l.0.assumptions))

-- a node has room for these loads, for the clauses of these lists and so many steps of a slice after them, and has no
-- lines
pub record HasRoomFor (steps : ℕ) (loads : List (Posted × ℕ)) (exported : List (List NumberedClause)) (n : NodeWithRoom) : Type 0 where
  pub trail : greatest loads n.state.variables ≤ n.spare.trail
  pub order : greatest loads n.state.variables ≤ n.spare.order + n.state.variables
  pub phases : greatest loads n.state.variables ≤ n.spare.phases + n.state.variables
  pub assumptions : most_assumptions loads 0 ≤ n.spare.assumptions
  pub variables : greatest loads n.state.variables ≤ n.spare.engine.variables
  pub clauses : clauses_in loads + import_clauses exported + steps ≤ n.spare.engine.clauses
  pub literals : literals_in loads + import_literals exported + most_numbers (greatest loads n.state.variables) ≤ n.spare.engine.literals
  pub none : n.lines ≡ []
  pub lines : steps ≤ n.spare.lines
  pub line_literals : most_numbers (greatest loads n.state.variables) ≤ n.spare.line_literals
  pub hints : most_numbers (greatest loads n.state.variables) ≤ n.spare.hints

-- a load uses no more room than it needs, and leaves the lines
pub record IsSpared (r : Posted) (before after : NodeWithRoom) : Type 0 where
  pub trail : before.spare.trail ≤ after.spare.trail
  pub order : before.spare.order ≤ after.spare.order + added r before.state
  pub phases : before.spare.phases ≤ after.spare.phases + added r before.state
  pub assumptions : before.spare.assumptions ≤ after.spare.assumptions
  pub variables : before.spare.engine.variables ≤ after.spare.engine.variables
  pub clauses : before.spare.engine.clauses ≤ after.spare.engine.clauses + length r.clauses
  pub literals : before.spare.engine.literals ≤ after.spare.engine.literals + literals_of r.clauses
  pub derived : after.lines ≡ before.lines
  pub lines : before.spare.lines ≤ after.spare.lines
  pub line_literals : before.spare.line_literals ≤ after.spare.line_literals
  pub hints : before.spare.hints ≤ after.spare.hints
