use Rattle.std.specs.Prelude.{ℕ, zero, suc, List, slice_get, Option, None}
use Rattle.std.specs.Option.{option_map}
use Rattle.mal_base.specs.declared.answer.Answer.{Answer}
use Rattle.mal_base.specs.declared.answer.Answer.TheVariants.{Satisfied, Refuted, Spent, OutOfStarts}
use Rattle.spec_report.specs.Replies.{ReplyBody, Model, Proof, AllSpent, AllStarved, reply_text}
use Rattle.spec_job.specs.SoloMachine.{SoloMachine}
use Rattle.spec_job.specs.Proofs.{failed, proof_lines}
use Rattle.spec_job.specs.KeyedJob.{Key}

-- what the reply to a revision, counted from 0, tells of a machine's answer
abbrev pub body_by : SoloMachine → ℕ → Answer → ReplyBody
body_by s r (Satisfied model) = Model model
body_by s r (Refuted goal) = Proof (failed goal s.log) (proof_lines s.revisions s.log r goal)
body_by s r (Spent n) = AllSpent n
body_by s r OutOfStarts = AllStarved

-- what a machine tells of a revision, numbered from 1; none before it is answered
abbrev pub body_of : ℕ → SoloMachine → Option ReplyBody
body_of zero s = None
body_of (suc k) s = option_map (body_by s k) (slice_get s.answers k)

-- the reply to a job's revision, which names the profile of the job's solvers; none before it is answered
abbrev pub reply : Key → ℕ → SoloMachine → Option (List ℕ)
reply k r s = option_map (reply_text k.tenant k.job r s.ask.profile) (body_of r s)
