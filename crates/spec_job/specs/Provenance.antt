use Rattle.std.specs.Prelude.{◌≡◌, ◌⊎◌, ℕ, ◌≤◌, true, All, Contains, List, [], ◌∷◌, ◌++◌, Some}
use Rattle.mal_base.specs.Clauses.{rises}
use Rattle.mal_base.specs.NumberedClause.{NumberedClause, Line}
use Rattle.spec_logic.specs.Refutation.{numbered}
use Rattle.spec_job.specs.Journal.{JournalEntry, Run, replay}
use Rattle.spec_job.specs.SoloMachine.{Own, Lease, SoloMachine, solo, place_at, exports_of}
use Rattle.spec_job.specs.Models.{clauses_of}
use Rattle.spec_job.specs.Proofs.{LogIsDerived}
use Rattle.spec_job.specs.Runnable.{IsRunnable}

-- a clause has the number and the literals of one of these lines
abbrev pub IsLineOf : List Line → NumberedClause → Type 0
IsLineOf lines c = (line : Line) × Contains lines line × (line.id ≡ c.id) × (line.lits ≡ c.lits)

-- a clause is a job's own: an original of its revisions under its number, which counts from 1, or a line of its log
abbrev pub IsOwn : SoloMachine → NumberedClause → Type 0
IsOwn s c = (numbered (clauses_of s.revisions) c.id ≡ Some (Some c.lits)) ⊎ IsLineOf s.log c

-- a start that is out: the node that runs its slice, with what it lacked loaded and imported, holds clauses of the
-- job's own alone, and after its slice the slice's new lines besides
pub record IsOutOwn (s : SoloMachine) (index : ℕ) (entries : List JournalEntry) (l : Lease) : Type 0 where
  pub before : List JournalEntry
  pub adds : l.adds ≡ before ++ Run ∷ []
  pub handed : All (IsOwn s) (replay s.ask.profile index (entries ++ before)).node.clauses
  pub ran : All (λ c. IsOwn s c ⊎ IsLineOf (replay s.ask.profile index (entries ++ l.adds)).lines c) (replay s.ask.profile index (entries ++ l.adds)).node.clauses

-- where a job's clauses come from: each node at home, and each that is out but for the new lines of its slice, holds
-- clauses of the job's own alone, what is exported and what was broadcast are lines of the log, the log is derived
-- from the job's clauses, and the literals of each line rise by variable
pub record ClausesAreOwn (s : SoloMachine) : Type 0 where
  pub home : (i : ℕ) → i ≤ 63 → All (IsOwn s) (replay s.ask.profile i (place_at s i).entries).node.clauses
  pub out : (i : ℕ) (l : Lease) → (place_at s i).out ≡ Some l → IsOutOwn s i (place_at s i).entries l
  pub exports : (i : ℕ) → All (IsLineOf s.log) (exports_of s.log i (place_at s i))
  pub broadcasts : All (All (IsLineOf s.log)) s.broadcasts
  pub log : LogIsDerived s
  pub rising : All (λ line. rises line.lits ≡ true) s.log

-- the clauses of a machine that was run on own events that may happen are its own
abbrev pub RunnableClausesOwn : Type 0
RunnableClausesOwn = (events : List Own) → IsRunnable [] events → ClausesAreOwn (solo events)
