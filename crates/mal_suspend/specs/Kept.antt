use Rattle.std.specs.Prelude.{◌≡◌, ℕ, ◌≤◌, ◌<◌, Bool, true, false, List, Option, Some, None, length}
use Rattle.std.specs.declared.alloc.AllocError.{AllocError}
use Rattle.mal_base.specs.NumberedClause.{Line}
use Rattle.mal_base.specs.declared.verdict.Verdict.{Verdict}
use Rattle.mal_base.specs.declared.verdict.Outcome.{Outcome}
use Rattle.mal_base.specs.declared.verdict.Outcome.TheVariants.{Ran, Starved, Lost}
use Rattle.mal_freeze.specs.Spelling.{image_bytes}
use Rattle.spec_job.specs.Journaled.{Journaled, node_of}
use Rattle.spec_job.specs.Leased.{Finished}
use Rattle.mal_suspend.specs.declared.kept.Kept.{Kept}
use Rattle.mal_suspend.specs.declared.kept.Kept.TheVariants.{Live, Cold, Gone}
use Rattle.mal_suspend.specs.declared.warm.Warm.{Warm}
use Rattle.mal_suspend.specs.declared.warm.Warm.TheVariants.{Large, Wanting}

-- the journal of a node that is kept
abbrev pub journal_of : Kept → Journaled
journal_of (Live j) = j
journal_of (Cold j) = j
journal_of (Gone j) = j

-- whether the node is gone
abbrev pub is_gone : Kept → Bool
is_gone (Live j) = false
is_gone (Cold j) = false
is_gone (Gone j) = true

-- how a start ended: it ran, or it ran out of memory with this error
abbrev pub outcome_by : Option AllocError → Outcome
outcome_by None = Ran
outcome_by (Some error) = Starved

-- what came of a lease, with what is kept of the node
abbrev pub finished : ℕ → Outcome → Kept → List Line → Option Verdict → List Bool → Finished
finished worker outcome kept lines verdict model = record { worker = worker; outcome = outcome; journal = journal_of kept; gone = is_gone kept; lines = lines; verdict = verdict; model = model }

-- the image of the node of a journal has more bytes than these
abbrev pub IsBeyond : ℕ → Journaled → Type 0
IsBeyond most j = most < length (image_bytes (node_of j))

-- why the node of a journal is not kept in so many bytes: its image has more, or freezing it ran out of memory
abbrev pub IsWarm : ℕ → Journaled → Warm → Type 0
IsWarm most j Large = IsBeyond most j
IsWarm most j (Wanting error) = Unit {0}

-- what is kept of a node between two starts: its image where that has 2^14 bytes at the most, else the node, which is
-- kept besides where freezing it ran out of memory
abbrev pub IsCooled : Kept → Option Warm → Type 0
IsCooled (Live j) None = ⊥
IsCooled (Live j) (Some warm) = IsWarm 16384 j warm
IsCooled (Cold j) warm = (warm ≡ None) × (length (image_bytes (node_of j)) ≤ 16384)
IsCooled (Gone j) warm = ⊥

-- so is that of a start that ran
abbrev pub IsCooledAfter : Outcome → Kept → Option Warm → Type 0
IsCooledAfter Ran kept warm = IsCooled kept warm
IsCooledAfter Starved kept warm = Unit {0}
IsCooledAfter Lost kept warm = Unit {0}
