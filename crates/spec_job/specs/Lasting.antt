-- Replies that last: what was told of a revision stays what it was.
use Rattle.std.specs.Prelude.{◌≡◌, ℕ, true, nat_lt, List, [], ◌∷◌, ◌++◌, length, Some, None}
use Rattle.mal_base.specs.declared.verdict.Outcome.TheVariants.{Ran}
use Rattle.spec_report.specs.Replies.{ReplyBody, Proof}
use Rattle.spec_search.specs.Examples.{four}
use Rattle.spec_job.specs.SoloMachine.{Own, Opened, Revised, Closed, Volume, Started, Finished, solo}
use Rattle.spec_job.specs.KeyedJob.{Key}
use Rattle.spec_job.specs.Replies.{body_of, reply}
use Rattle.spec_job.specs.Runnable.{IsRunnable}
use Rattle.spec_job.specs.Examples.{ask, both_assumed, line}

-- a reply to a revision stays what it was, byte for byte, whatever own events follow that may happen
abbrev pub RepliesStay : Type 0
RepliesStay =
    (k : Key) (r : ℕ) (text : List ℕ) (past later : List Own) → IsRunnable [] (past ++ later)
    → reply k r (solo past) ≡ Some text → reply k r (solo (past ++ later)) ≡ Some text

-- a job whose assumptions fail at once
abbrev pub refuted_first : List Own
refuted_first = Opened (ask 1 4) ∷ Revised both_assumed ∷ Volume 1 ∷ Started 0 ∷ Finished 0 Ran ∷ []

-- and another revision that is run after it, by which the log grows
abbrev pub refuted_next : List Own
refuted_next = Revised four ∷ Started 0 ∷ Finished 0 Ran ∷ Closed ∷ []

-- what is told of the first revision: the assumptions that fail, and a proof of one line
abbrev pub refuted_body : ReplyBody
refuted_body = Proof (2 ∷ 4 ∷ []) (line 2 (3 ∷ 5 ∷ []) (1 ∷ []) ∷ [])

-- a worked example: what is told of the first revision is the same after the second one was answered
pub record HasLasting : Type 0 where
  pub runnable : IsRunnable [] (refuted_first ++ refuted_next)
  pub told : body_of 1 (solo refuted_first) ≡ Some refuted_body
  pub same : body_of 1 (solo (refuted_first ++ refuted_next)) ≡ Some refuted_body
  pub longer : nat_lt (length (solo refuted_first).log) (length (solo (refuted_first ++ refuted_next)).log) ≡ true
  pub not_yet : body_of 2 (solo refuted_first) ≡ None
