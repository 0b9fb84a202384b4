-- A node, the clauses that it was given, and the log where proofs are kept.
use Rattle.std.specs.Prelude.{◌≡◌, ℕ, List, [], ◌∷◌, ◌++◌, length, map, Option, Some, None, IfSome}
use Rattle.std.specs.Option.{option_map}
use Rattle.mal_base.specs.Literals.{negated}
use Rattle.mal_base.specs.NumberedClause.{Line}
use Rattle.spec_node.specs.State.{Node}
use Rattle.spec_proof.specs.Log.{IsOrderly}
use Rattle.spec_proof.specs.Trimmed.{reached, renumbered}
use Rattle.mal_proof.specs.Logged.{Logged}
use Rattle.spec_solving.specs.Holding.{Serves}
use Rattle.mal_solving.specs.declared.given.Given.{Given, Nothing, More'}

-- the clauses of revisions that were loaded one after another
abbrev pub given_clauses : Given → List (Option (List ℕ))
given_clauses Nothing = []
given_clauses (More' mark before revision) = given_clauses before ++ revision.value.clauses

-- the clauses that a node was given, its state, and the lines that it derived where they are kept
pub record Loaded : Type 0 where
  pub clauses : List (Option (List ℕ))
  pub node : Node
  pub kept : Option (List Line)

abbrev pub lines_kept : Option Logged → Option (List Line)
lines_kept log = option_map (λ l. l.lines) log

-- the node serves its clauses with a log, which is the one that is kept, and they are counted
pub record IsLoaded (count : ℕ) (l : Loaded) : Type 0 where
  pub log : List Line
  pub serves : Serves l.clauses log l.node
  pub counted : count ≡ length l.clauses
  pub same : IfSome l.kept (λ lines. lines ≡ log)

-- of lines that are kept, those that a goal needs, numbered after so many clauses
abbrev pub needed_of : ℕ → ℕ → Option (List Line) → List Line
needed_of goal clauses None = []
needed_of goal clauses (Some lines) = renumbered clauses (reached goal lines)

abbrev pub core_lines : ℕ → Loaded → List Line
core_lines goal l = needed_of goal (length l.clauses) l.kept

-- where lines are kept, more can be put after them
abbrev pub MayEnter : Option (List Line) → List Line → Type 0
MayEnter kept lines = IfSome kept (λ before. IsOrderly (before ++ lines))

-- lines were put after those that are kept; or none are kept any more
abbrev pub IsEntered : Option (List Line) → List Line → Option (List Line) → Type 0
IsEntered None lines after = after ≡ None
IsEntered (Some before) lines after = IfSome after (λ now. now ≡ before ++ lines)

-- the negations of the last line's literals
abbrev pub AreLast : List Line → List ℕ → Type 0
AreLast lines lits = (before : List Line) (line : Line) → lines ≡ before ++ line ∷ [] → lits ≡ map negated line.lits
