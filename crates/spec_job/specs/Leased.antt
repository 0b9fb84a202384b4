use Rattle.std.specs.Prelude.{◌≡◌, ℕ, Bool, true, false, List, [], Option, Some, None}
use Rattle.mal_base.specs.NumberedClause.{Line}
use Rattle.mal_base.specs.declared.verdict.Verdict.{Verdict}
use Rattle.mal_base.specs.declared.verdict.Verdict.TheVariants.{Satisfiable, Unsatisfiable}
use Rattle.mal_base.specs.declared.verdict.Outcome.{Outcome}
use Rattle.mal_base.specs.declared.verdict.Outcome.TheVariants.{Ran, Starved, Lost}
use Rattle.spec_node.specs.State.{Node}
use Rattle.spec_node.specs.Model.{model_of}
use Rattle.spec_job.specs.Journal.{JournalEntry}
use Rattle.spec_job.specs.Journaled.{Journaled, replayed, node_of, and_entries}

-- a lease as contracts see it: the journal of its node, whether the node is gone, what the start adds to the journal,
-- and the worker
pub record Leased : Type 0 where
  pub journal : Journaled
  pub gone : Bool
  pub adds : List JournalEntry
  pub worker : ℕ

-- a start as contracts see it: the journal after it, and what it adds
pub record Begun : Type 0 where
  pub grown : Journaled
  pub adds : List JournalEntry

-- what came of a lease: the worker, how the start ended, the journal of the node, whether the node is gone, and the
-- lines, the verdict and the model of the slice
pub record Finished : Type 0 where
  pub worker : ℕ
  pub outcome : Outcome
  pub journal : Journaled
  pub gone : Bool
  pub lines : List Line
  pub verdict : Option Verdict
  pub model : List Bool

-- the model that goes with a verdict on a node: that of a satisfiable one
abbrev pub model_with : Option Verdict → Node → List Bool
model_with None n = []
model_with (Some Satisfiable) n = model_of n
model_with (Some (Unsatisfiable goal)) n = []

-- a start that ran has its node, and tells the lines, the verdict and the model of its journal's last slice
pub record HasRun (d : Finished) : Type 0 where
  pub live : d.gone ≡ false
  pub lines : d.lines ≡ (replayed d.journal).lines
  pub verdict : d.verdict ≡ (node_of d.journal).verdict
  pub model : d.model ≡ model_with d.verdict (node_of d.journal)

-- a start that ran out of memory tells nothing
pub record HasStarved (d : Finished) : Type 0 where
  pub lines : d.lines ≡ []
  pub verdict : d.verdict ≡ None
  pub model : d.model ≡ []

-- what is told of a start that ended so
abbrev pub Tells : Outcome → Finished → Type 0
Tells Ran d = HasRun d
Tells Starved d = HasStarved d
Tells Lost d = ⊥

-- what became of a journal and its node where a start ended so: a start that ran has added its entries; one that ran
-- out of memory has added none, and its node is gone only where it was before
abbrev pub Becomes : Outcome → Leased → Finished → Type 0
Becomes Ran l d = d.journal ≡ and_entries l.journal l.adds
Becomes Starved l d = (d.journal ≡ l.journal) × (d.gone ≡ true → l.gone ≡ true)
Becomes Lost l d = ⊥

-- the same where a node with this journal was started
abbrev pub HasBecome : Outcome → Journaled → List JournalEntry → Finished → Type 0
HasBecome Ran j adds d = d.journal ≡ and_entries j adds
HasBecome Starved j adds d = (d.journal ≡ j) × (d.gone ≡ false)
HasBecome Lost j adds d = ⊥
