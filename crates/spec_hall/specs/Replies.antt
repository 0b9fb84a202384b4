-- Replies that last: what was told of a job's revision stays what it was, also after the job has left.
use Rattle.std.specs.Prelude.{◌≡◌, ℕ, true, false, List, [], ◌∷◌, ◌++◌, Some, None, is_some}
use Rattle.std.specs.List.{list_any}
use Rattle.mal_base.specs.declared.verdict.Outcome.TheVariants.{Starved}
use Rattle.spec_job.specs.KeyedJob.{Key}
use Rattle.spec_job.specs.Replies.{reply}
use Rattle.spec_job.specs.SoloMachine.{solo}
use Rattle.spec_hall.specs.Events.{Event, Close, Balance, Start, Finish, Leave}
use Rattle.spec_hall.specs.Examples.{key, posted, share}
use Rattle.spec_hall.specs.Legal.{Legal, job_of}
use Rattle.spec_hall.specs.Own.{arrives, own}
use Rattle.spec_hall.specs.States.{states}

-- a reply to a job, once it could be told, stays what it was, byte for byte, in each history that goes on legally, also
-- after the job has left, unless it comes back
abbrev pub JobRepliesStay : Type 0
JobRepliesStay =
    (workers : ℕ) (k : Key) (r : ℕ) (text : List ℕ) (past later : List Event) → Legal workers (past ++ later) → list_any (arrives k) later ≡ false
    → reply k r (solo (own k past)) ≡ Some text → reply k r (solo (own k (past ++ later))) ≡ Some text

-- a start of the job p that runs out of memory
abbrev pub starved_start : List Event
starved_start = Start (key 112) 0 1 ∷ Finish (key 112) 0 1 Starved ∷ []

-- the job p, whose revision the third such start answers
abbrev pub starved_thrice : List Event
starved_thrice = posted 112 4 ++ Balance (share 112 8 ∷ []) ∷ starved_start ++ starved_start ++ starved_start

-- a worked example: the job is closed and leaves, and its reply is the same
pub record HasReplies : Type 0 where
  pub none : reply (key 112) 1 (solo (own (key 112) (posted 112 4))) ≡ None
  pub told : is_some (reply (key 112) 1 (solo (own (key 112) starved_thrice))) ≡ true
  pub gone : job_of (key 112) (states (starved_thrice ++ Close (key 112) ∷ Leave (key 112) ∷ [])) ≡ None
  pub same : reply (key 112) 1 (solo (own (key 112) (starved_thrice ++ Close (key 112) ∷ Leave (key 112) ∷ []))) ≡ reply (key 112) 1 (solo (own (key 112) starved_thrice))
