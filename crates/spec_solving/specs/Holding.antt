-- A node and a log that serve clauses: the node holds all of them, and the log knows what else it holds.
use Rattle.std.specs.Prelude.{◌≡◌, ℕ, ◌+◌, ◌≤◌, ◌^◌, ◌&&◌, Bool, not, nat_le, true, List, [], ◌∷◌, ◌++◌, Contains, All, length, map, Option, Some, None}
use Rattle.mal_base.specs.Literals.{negated}
use Rattle.mal_base.specs.NumberedClause.{Line}
use Rattle.mal_base.specs.declared.trail_entry.TrailEntry.{TrailEntry}
use Rattle.mal_base.specs.declared.verdict.Verdict.TheVariants.{Unsatisfiable}
use Rattle.mal_revision.specs.Posted.{Posted, is_posted}
use Rattle.spec_logic.specs.Refutation.{IsRefutation}
use Rattle.spec_node.specs.State.{Node}
use Rattle.spec_node.specs.Load.{loaded, numbered}
use Rattle.spec_node.specs.Sound.{IsSound}
use Rattle.spec_node.specs.Laws.{HasModel, originals}
use Rattle.spec_learn.specs.Dropping.{is_reason}
use Rattle.spec_search.specs.Slice.{slice}
use Rattle.spec_search.specs.Dropping.{given_up}
use Rattle.spec_search.specs.Covering.{Covers}
use Rattle.spec_proof.specs.Log.{proof_of}
use Rattle.spec_proof.specs.Trimmed.{reached, renumbered}

-- a sound node holds these clauses, numbered from 1, has a model of them where it says satisfiable, and a log covers what
-- it holds
pub record Serves (clauses : List (Option (List ℕ))) (log : List Line) (n : Node) : Type 0 where
  pub sound : IsSound n
  pub model : HasModel n
  pub held : originals n.clauses ≡ numbered 1 clauses
  pub covers : Covers clauses log n.index n.serial n.clauses

abbrev pub LoadsKeepCovering : Type 0
LoadsKeepCovering =
    (clauses : List (Option (List ℕ))) (log : List Line) (r : Posted) (n : Node)
    → is_posted r ≡ true → length clauses + length r.clauses + 1 ≤ 2 ^ 32 → Serves clauses log n
    → Serves (clauses ++ r.clauses) log (loaded r (1 + length clauses) n)

-- a node after giving up the clauses of these numbers, one after another
abbrev pub all_given_up : List ℕ → Node → Node
all_given_up [] n = n
all_given_up (id ∷ ids) n = all_given_up ids (given_up id n)

-- a node gave up some clauses
pub record HasGivenUp (before after : Node) : Type 0 where
  pub ids : List ℕ
  pub is : after ≡ all_given_up ids before

-- the clause of a number can be given up on a trail: it is derived and no entry's reason
abbrev pub may_be_given_up : List TrailEntry → ℕ → Bool
may_be_given_up trail id = nat_le (2 ^ 32) id && not (is_reason trail (record { id = id; lits = [] }))

-- a node in which nothing waits goes on serving without some clauses
abbrev pub GivingUpKeepsCovering : Type 0
GivingUpKeepsCovering =
    (clauses : List (Option (List ℕ))) (log : List Line) (ids : List ℕ) (n : Node)
    → n.conflict ≡ None → n.verdict ≡ None → Serves clauses log n → Serves clauses log (all_given_up ids n)

abbrev pub SlicesKeepCovering : Type 0
SlicesKeepCovering =
    (clauses : List (Option (List ℕ))) (log : List Line) (n : Node)
    → Serves clauses log n → Serves clauses (log ++ (slice n).lines) (slice n).node

-- where a slice refutes: its last line, the negations of whose literals were all assumed, and the lines that its goal
-- needs refute the clauses under these
pub record IsRefuted (clauses : List (Option (List ℕ))) (assumed : List ℕ) (goal : ℕ) (log lines : List Line) : Type 0 where
  pub before : List Line
  pub line : Line
  pub last : lines ≡ before ++ line ∷ []
  pub among : All (Contains assumed) (map negated line.lits)
  pub refuted : IsRefutation clauses (map negated line.lits) (proof_of (renumbered (length clauses) (reached goal (log ++ lines))))

abbrev pub SlicesRefute : Type 0
SlicesRefute =
    (clauses : List (Option (List ℕ))) (log : List Line) (n : Node) (goal : ℕ)
    → Serves clauses log n → n.verdict ≡ None → (slice n).node.verdict ≡ Some (Unsatisfiable goal)
    → IsRefuted clauses n.assumptions goal log (slice n).lines
