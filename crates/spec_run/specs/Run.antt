use Rattle.std.specs.Prelude.{◌≡◌, ℕ, ◌+◌, Bool, true, List, [], ◌∷◌, ◌++◌, map, flat_map, Option, Some, None}
use Rattle.std.specs.List.{list_all}
use Rattle.mal_history.specs.Text.{history_text}
use Rattle.mal_revision.specs.Posted.{Posted}
use Rattle.spec_job.specs.SoloMachine.{Own, SoloMachine, solo}
use Rattle.spec_job.specs.KeyedJob.{Key}
use Rattle.spec_hall.specs.Events.{Event, Finish, bare}
use Rattle.spec_hall.specs.Own.{own}
use Rattle.spec_hall.specs.Legal.{Legal}
use Rattle.spec_hall.specs.Driven.{IsDriven}
use Rattle.spec_job.specs.DemandOne.{had_memory}
use Rattle.spec_job.specs.Models.{AnswersSolve}
use Rattle.spec_job.specs.Proofs.{AnswersRefute}
use Rattle.spec_job.specs.Replies.{reply}
use Rattle.spec_job.specs.Unknown.{AnswersAccountedFor, FedAnswersDecide}
use Rattle.spec_script.specs.Script.{ScriptedJob, Scripted, revisions}
use Rattle.spec_run.specs.Complete.{IsComplete, key_of_job, script_events}

-- the text of a reply, nothing where there is none
abbrev pub text_or_none : Option (List ℕ) → List ℕ
text_or_none None = []
text_or_none (Some text) = text

-- the replies of a machine to its revisions, from this one on
abbrev pub replies_from : Key → ℕ → SoloMachine → List Posted → List ℕ
replies_from k r s [] = []
replies_from k r s (p ∷ ps) = text_or_none (reply k r s) ++ replies_from k (r + 1) s ps

-- the replies to a job: those of its machine run alone on the job's own events
abbrev pub job_replies : List Event → ScriptedJob → List ℕ
job_replies history j = replies_from (key_of_job j) 1 (solo (own (key_of_job j) history)) (revisions j)

-- the replies to a script, job by job in its order
unfoldable pub replies : Scripted → List Event → List ℕ
replies s history = flat_map (job_replies history) s.jobs

-- the answers of a job with these own events are evidence: satisfiable carries a model of its revision, unsatisfiable a
-- proof from the job's clauses alone, and unknown is accounted for: the budget was spent on slices without a verdict,
-- or three starts ran out of memory; where none did, each answer is a verdict, or the budget was spent
pub record IsEvident (own : List Own) : Type 0 where
  pub models : AnswersSolve (solo own)
  pub proofs : AnswersRefute (solo own)
  pub unknowns : AnswersAccountedFor own
  pub decided : FedAnswersDecide own

-- a script was run with so many workers: the history is legal and complete for it; the log is the history's text, and
-- the output is the replies of the jobs' machines, each run alone on its own events, whose answers are evidence
pub record IsRun (workers : ℕ) (s : Scripted) (history : List Event) (log out : List ℕ) : Type 0 where
  pub legal : Legal workers history
  pub complete : IsComplete s history
  pub log_text : log ≡ history_text workers (map bare history)
  pub out_text : out ≡ replies s history
  pub evident : (k : Key) → IsEvident (own k history)

-- a run is sequential: after all that the script posts its history comes by turns of one worker
pub record IsSequentialRun (workers : ℕ) (s : Scripted) (history : List Event) (log out : List ℕ) : Type 0 where
  pub run : IsRun workers s history log out
  pub driven : IsDriven workers (script_events s) history

-- whether an event is no end of a start that ran out of memory
abbrev pub is_fed : Event → Bool
is_fed (Finish k index worker outcome) = had_memory outcome
is_fed event = true

-- no start of a history ran out of memory
abbrev pub IsFed : List Event → Type 0
IsFed history = list_all is_fed history ≡ true

-- two runs have the same history, the same log and the same output
pub record AreSameRuns (one other : List Event) (log_one log_other out_one out_other : List ℕ) : Type 0 where
  pub histories : one ≡ other
  pub logs : log_one ≡ log_other
  pub outs : out_one ≡ out_other

-- a script is run sequentially in one way where no start runs out of memory: the history, and with it the log and the
-- output, are decided by the script and the number of workers
abbrev pub RunIsDecided : Type 0
RunIsDecided = (workers : ℕ) (s : Scripted) (one other : List Event) (log_one log_other out_one out_other : List ℕ) → IsSequentialRun workers s one log_one out_one → IsSequentialRun workers s other log_other out_other → IsFed one → IsFed other → AreSameRuns one other log_one log_other out_one out_other
