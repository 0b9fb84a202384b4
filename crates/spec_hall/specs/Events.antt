use Rattle.std.specs.Prelude.{ℕ, Bool, true, false, List}
use Rattle.mal_base.specs.Asks.{Terms, Weighed}
use Rattle.mal_base.specs.declared.verdict.Outcome.{Outcome}
use Rattle.mal_revision.specs.Posted.{Posted}
use Rattle.mal_history.specs.declared.event.Share.{Share}
use Rattle.spec_job.specs.KeyedJob.{Key}
use Rattle.spec_job.specs.SoloMachine.{Own}
use Rattle.mal_history.specs.declared.event.Event as written
use Rattle.mal_history.specs.declared.event.Event.TheVariants as of

-- an event of a hall, in which a revision stands with what was posted, and an arrival with the own events that the job
-- brings
pub data Event : Type 0 where
  Open : Key → Terms → Event
  Revise : Key → ℕ → Posted → Event
  Reask : Key → Weighed → Event
  Close : Key → Event
  Balance : List Share → Event
  Start : Key → ℕ → ℕ → Event
  Finish : Key → ℕ → ℕ → Outcome → Event
  Exchange : Key → Event
  Leave : Key → Event
  Arrive : Key → List Own → Event

-- the event as a history writes it down, without what was posted or brought
abbrev pub bare : Event → written.Event
bare (Open k ask) = of.Open k.tenant k.job ask
bare (Revise k number r) = of.Revise k.tenant k.job number
bare (Reask k w) = of.Reask k.tenant k.job w
bare (Close k) = of.Close k.tenant k.job
bare (Balance shares) = of.Balance shares
bare (Start k index worker) = of.Start k.tenant k.job index worker
bare (Finish k index worker outcome) = of.Finish k.tenant k.job index worker outcome
bare (Exchange k) = of.Exchange k.tenant k.job
bare (Leave k) = of.Leave k.tenant k.job
bare (Arrive k brought) = of.Arrive k.tenant k.job

-- whether an event moves a job: a leave or an arrival
abbrev pub moves : Event → Bool
moves (Leave k) = true
moves (Arrive k brought) = true
moves event = false

-- the key of a volume
abbrev pub key_of : Share → Key
key_of s = record { tenant = s.tenant; job = s.job }
