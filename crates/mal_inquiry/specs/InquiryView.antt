use Rattle.std.specs.Prelude.{◌≡◌, ◌⊎◌, ℕ, ◌+◌, List, [], ◌∷◌, ◌++◌, length, Some}
use Rattle.mal_base.specs.Asks.{Terms}
use Rattle.mal_base.specs.NumberedClause.{Line}
use Rattle.mal_hall.specs.HallView.{HallView}
use Rattle.mal_job.specs.Findings.{told_by}
use Rattle.mal_job.specs.declared.finding.Finding.{Finding}
use Rattle.mal_revision.specs.Posted.{Posted}
use Rattle.spec_report.specs.Replies.{ReplyBody}
use Rattle.spec_job.specs.KeyedJob.{Key}
use Rattle.spec_job.specs.Replies.{body_of}
use Rattle.spec_job.specs.SoloMachine.{SoloMachine, solo}
use Rattle.spec_hall.specs.Driven.{GrowsByTurns, IsIdle}
use Rattle.spec_hall.specs.Events.{Event, Revise}
use Rattle.spec_hall.specs.Legal.{Allowed}
use Rattle.spec_hall.specs.Own.{own}
use Rattle.spec_hall.specs.States.{leases, lives, states}
use Rattle.spec_run.specs.Posting.{IsOpen}
use Rattle.spec_inquiry.specs.Asking.{HasAsked}
use Rattle.spec_inquiry.specs.Rounds.{Round}

-- an inquiry as contracts see it: the key of its job, and the events of its hall
pub record InquiryView : Type 0 where
  pub key : Key
  pub events : List Event

-- what an inquiry keeps: its hall has one worker and nothing out, and the job is open with as many revisions as were
-- posted
pub record IsKept (hall : HallView) (k : Key) (asked : ℕ) : Type 0 where
  pub alone : hall.workers ≡ 1
  pub home : leases hall.events ≡ []
  pub revisions : List Posted
  pub is_open : IsOpen k revisions hall.events
  pub counted : asked ≡ length revisions

-- the machine of the job
abbrev pub machine : InquiryView → SoloMachine
machine i = solo (own i.key i.events)

-- the number of the next revision
abbrev pub next_in : InquiryView → ℕ
next_in i = length (machine i).revisions + 1

-- the next revision was posted, as it may be
pub record HasPosted (before : InquiryView) (r : Posted) (after : InquiryView) : Type 0 where
  pub may : Allowed 1 before.events (Revise before.key (next_in before) r)
  pub grown : after.events ≡ before.events ++ Revise before.key (next_in before) r ∷ []

-- a revision was asked as far as there was memory: nothing was entered, or it was posted, and turns of the one worker
-- followed
abbrev pub HasBegun : InquiryView → Posted → InquiryView → Type 0
HasBegun before r after = (after ≡ before) ⊎ ((mid : InquiryView) × HasPosted before r mid × GrowsByTurns 1 mid.events after.events)

-- no node may start, and every revision is answered
pub record IsAnswered (i : InquiryView) : Type 0 where
  pub idle : IsIdle i.events
  pub none : lives (states i.events) ≡ []

-- this is told of the last revision
abbrev pub TellsLast : InquiryView → ReplyBody → Type 0
TellsLast i told = body_of (length (machine i).revisions) (machine i) ≡ Some told

-- and this is found of it
abbrev pub IsLast : InquiryView → Finding → Type 0
IsLast i found = (lines : List Line) × TellsLast i (told_by lines found)

-- one question more was asked after rounds, and this is found of it
abbrev pub HasFound : Key → Terms → List Round → Posted → Finding → List Event → Type 0
HasFound k ask rounds revision found history =
    (lines : List Line) × HasAsked k ask rounds (record { revision = revision; told = told_by lines found }) history
