-- What holds of inquiries, in the form in which the law functions state it.
use Rattle.std.specs.Prelude.{◌≡◌, ℕ, suc, ◌<◌, ◌≤◌, false, List, [], ◌∷◌, ◌++◌, length, Option, Some, slice_get}
use Rattle.std.specs.List.{list_any}
use Rattle.mal_base.specs.Limits.{limits}
use Rattle.mal_base.specs.Asks.{Terms}
use Rattle.mal_base.specs.Formulas.{literals_of}
use Rattle.mal_revision.specs.Posted.{Posted}
use Rattle.spec_report.specs.Replies.{ReplyBody}
use Rattle.spec_job.specs.KeyedJob.{Key}
use Rattle.spec_job.specs.Models.{clauses_through, variables_through}
use Rattle.spec_job.specs.Replies.{body_of}
use Rattle.spec_job.specs.SoloMachine.{solo}
use Rattle.spec_course.specs.Supported.{AreSupported}
use Rattle.spec_hall.specs.Events.{Event}
use Rattle.spec_hall.specs.Legal.{Legal}
use Rattle.spec_hall.specs.Own.{own, arrives}
use Rattle.spec_run.specs.Posting.{IsOpen}
use Rattle.spec_inquiry.specs.Asking.{MayAsk}
use Rattle.spec_inquiry.specs.Evidence.{IsEvidence, OnlyAssumes, BeginWith}
use Rattle.spec_inquiry.specs.Rounds.{Round, IsRound, IsInquiry, round_events, asked_in, revisions_in}

-- what a job's machine tells of a revision, counted from 0, in a legal history has its evidence
abbrev pub LegalIsEvident : Type 0
LegalIsEvident =
    (workers : ℕ) (history : List Event) (k : Key) (r : ℕ) (told : ReplyBody) → Legal workers history
    → body_of (suc r) (solo (own k history)) ≡ Some told → IsEvidence (solo (own k history)).revisions r told

-- the history of an inquiry is legal
abbrev pub InquiryIsLegal : Type 0
InquiryIsLegal = (k : Key) (ask : Terms) (rounds : List Round) (history : List Event) → IsInquiry k ask rounds history → Legal 1 history

-- its job is open, with the revisions that were asked
abbrev pub InquiryIsOpen : Type 0
InquiryIsOpen =
    (k : Key) (ask : Terms) (rounds : List Round) (history : List Event) → IsInquiry k ask rounds history
    → IsOpen k (revisions_in rounds) history

-- it takes one more round after it
abbrev pub InquiryGrows : Type 0
InquiryGrows =
    (k : Key) (ask : Terms) (rounds : List Round) (history : List Event) (x : Round) → IsInquiry k ask rounds history
    → IsRound k history (suc (length rounds)) x
    → IsInquiry k ask (rounds ++ x ∷ []) (history ++ round_events k (suc (length rounds)) x)

-- all that was told has its evidence
abbrev pub ToldIsEvident : Type 0
ToldIsEvident =
    (k : Key) (ask : Terms) (rounds : List Round) (history : List Event) (r : ℕ) (x : Round) → IsInquiry k ask rounds history
    → slice_get rounds r ≡ Some x → IsEvidence (revisions_in rounds) r x.asked.told

-- what a job's machine tells of a revision in a legal history, it tells whatever follows but an arrival of the job
abbrev pub LegalToldStays : Type 0
LegalToldStays =
    (workers : ℕ) (past later : List Event) (k : Key) (n : ℕ) (told : ReplyBody) → Legal workers (past ++ later)
    → list_any (arrives k) later ≡ false → body_of n (solo (own k past)) ≡ Some told → body_of n (solo (own k (past ++ later))) ≡ Some told

-- so the machine of the whole history of an inquiry tells of each revision what was told in its round
abbrev pub ToldStays : Type 0
ToldStays =
    (k : Key) (ask : Terms) (rounds : List Round) (history : List Event) (r : ℕ) (x : Round) → IsInquiry k ask rounds history
    → slice_get rounds r ≡ Some x → body_of (suc r) (solo (own k history)) ≡ Some x.asked.told

-- where the revisions after the first only assume, each has the variables and the clauses of the first
abbrev pub FirstHasAll : Type 0
FirstHasAll =
    (variables : ℕ) (clauses : List (Option (List ℕ))) (revisions : List Posted) (r : ℕ) → BeginWith variables clauses revisions
    → r < length revisions → (variables_through revisions r ≡ variables) × (clauses_through revisions r ≡ clauses)

-- there all that was told has its evidence of these clauses
abbrev pub InquiryIsSupported : Type 0
InquiryIsSupported =
    (k : Key) (ask : Terms) (rounds : List Round) (history : List Event) (variables : ℕ) (clauses : List (Option (List ℕ)))
    → IsInquiry k ask rounds history → BeginWith variables clauses (revisions_in rounds)
    → AreSupported variables clauses (asked_in rounds)

-- and there is room for a revision that only assumes after fewer than 256
abbrev pub AssumingMayAsk : Type 0
AssumingMayAsk =
    (variables : ℕ) (clauses : List (Option (List ℕ))) (revisions : List Posted) (revision : Posted)
    → BeginWith variables clauses revisions → OnlyAssumes variables revision
    → length revisions < limits.revisions → length clauses ≤ limits.clauses → literals_of clauses ≤ limits.literals → MayAsk revisions revision
