use Rattle.std.specs.Prelude.{◌≡◌, ℕ, ◌≤◌, true, List, [], ◌∷◌, Some, None}
use Rattle.mal_revision.specs.Posted.{is_posted}
use Rattle.spec_node.specs.State.{Node}
use Rattle.spec_node.specs.Sound.{IsSound}
use Rattle.spec_node.specs.Laws.{AreNewNumbers, MayImport}
use Rattle.spec_search.specs.Slice.{Sliced}
use Rattle.spec_job.specs.Journal.{JournalEntry, Load, Import, Run, after_entry, replay}
use Rattle.spec_job.specs.SoloMachine.{Own, Lease, SoloMachine, solo, place_at}
use Rattle.spec_job.specs.Runnable.{IsRunnable}

-- an entry may follow where its node stands: a posted revision of which the numbers are new, clauses that the node may
-- import, or a slice of a sound node without a verdict
abbrev pub MayFollow : JournalEntry → Node → Type 0
MayFollow (Load r first) n = (is_posted r ≡ true) × AreNewNumbers r first n
MayFollow (Import exported) n = MayImport exported n
MayFollow Run n = IsSound n × (n.verdict ≡ None)

-- each of these entries may follow those before it
abbrev pub MayAllFollow : Sliced → List JournalEntry → Type 0
MayAllFollow s [] = Unit {0}
MayAllFollow s (e ∷ es) = MayFollow e s.node × MayAllFollow (after_entry s e) es

-- the journals of a job can be replayed: each entry may follow those before it, and so may those of each start that is
-- out
pub record JournalsFollow (s : SoloMachine) : Type 0 where
  pub home : (i : ℕ) → i ≤ 63 → MayAllFollow (replay s.ask.profile i []) (place_at s i).entries
  pub out : (i : ℕ) (l : Lease) → i ≤ 63 → (place_at s i).out ≡ Some l → MayAllFollow (replay s.ask.profile i (place_at s i).entries) l.adds

-- so it is with a machine that was run on own events that may happen
abbrev pub RunnableJournalsFollow : Type 0
RunnableJournalsFollow = (events : List Own) → IsRunnable [] events → JournalsFollow (solo events)
