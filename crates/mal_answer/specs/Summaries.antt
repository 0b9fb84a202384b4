-- The line that tells what the replies of a run are.
use Rattle.std.specs.Prelude.{◌≡◌, ℕ, ◌+◌, Bool, true, false, List, [], ◌∷◌, ◌++◌, length, codes, bytes_eq, count_by, flat_map, option_to_list}
use Rattle.mal_revision.specs.Posted.{Posted}
use Rattle.spec_hall.specs.Events.{Event}
use Rattle.spec_hall.specs.Own.{own}
use Rattle.spec_job.specs.Replies.{body_of}
use Rattle.spec_job.specs.SoloMachine.{SoloMachine, solo}
use Rattle.spec_report.specs.Replies.{ReplyBody, Model, Proof, AllSpent, AllStarved}
use Rattle.spec_run.specs.Complete.{key_of_job}
use Rattle.spec_run.specs.Run.{replies}
use Rattle.spec_script.specs.Formed.{IsScript}
use Rattle.mal_base.specs.Limits.{limits}
use Rattle.spec_script.specs.Script.{ScriptedJob, Scripted, revisions}
use Rattle.spec_text.specs.Inputs.{lines_of}
use Rattle.spec_text.specs.Lines.{line_of}
use Rattle.spec_text.specs.Numbers.{decimal_word}

-- what the replies of a machine to its revisions tell, from this one on
abbrev pub told_from : ℕ → SoloMachine → List Posted → List ReplyBody
told_from r s [] = []
told_from r s (p ∷ ps) = option_to_list (body_of r s) ++ told_from (r + 1) s ps

-- what the replies to a job tell: those of its machine run alone on the job's own events
abbrev pub told_to : List Event → ScriptedJob → List ReplyBody
told_to history j = told_from 1 (solo (own (key_of_job j) history)) (revisions j)

-- what the replies to a script tell, job by job in its order
abbrev pub all_told : Scripted → List Event → List ReplyBody
all_told s history = flat_map (told_to history) s.jobs

-- a reply tells a model; a refutation; that the answer is unknown
abbrev pub is_model : ReplyBody → Bool
is_model (Model values) = true
is_model (Proof failed lines) = false
is_model (AllSpent n) = false
is_model AllStarved = false

abbrev pub is_refutation : ReplyBody → Bool
is_refutation (Model values) = false
is_refutation (Proof failed lines) = true
is_refutation (AllSpent n) = false
is_refutation AllStarved = false

abbrev pub is_unknown : ReplyBody → Bool
is_unknown (Model values) = false
is_unknown (Proof failed lines) = false
is_unknown (AllSpent n) = true
is_unknown AllStarved = true

-- the line `g N sat A unsat B unknown C`
abbrev pub counts_line : ℕ → ℕ → ℕ → ℕ → List ℕ
counts_line jobs models refutations unknowns = line_of (
    codes "g" ∷ decimal_word jobs
    ∷ codes "sat" ∷ decimal_word models
    ∷ codes "unsat" ∷ decimal_word refutations
    ∷ codes "unknown" ∷ decimal_word unknowns
    ∷ [])

-- this line of so many jobs, the replies to which tell this: how many are models, refutations and unknown
unfoldable pub summary_line : ℕ → List ReplyBody → List ℕ
summary_line jobs told = counts_line jobs (count_by is_model told) (count_by is_refutation told) (count_by is_unknown told)

-- how many lines of a text are this one
abbrev pub lines_that_are : List ℕ → List ℕ → ℕ
lines_that_are line text = count_by (bytes_eq line) (lines_of text)

-- the same line made of a text of replies, by its lines `s ..`
unfoldable pub lines_summary : ℕ → List ℕ → List ℕ
lines_summary jobs text = counts_line jobs (lines_that_are (codes "s SATISFIABLE") text) (lines_that_are (codes "s UNSATISFIABLE") text) (lines_that_are (codes "s UNKNOWN") text)

-- the text of replies that tell this has one line `s ..` a reply, which says of what kind it is, and each is of one kind
pub record AreCounted (text : List ℕ) (told : List ReplyBody) : Type 0 where
  pub models : lines_that_are (codes "s SATISFIABLE") text ≡ count_by is_model told
  pub refutations : lines_that_are (codes "s UNSATISFIABLE") text ≡ count_by is_refutation told
  pub unknowns : lines_that_are (codes "s UNKNOWN") text ≡ count_by is_unknown told
  pub all : count_by is_model told + count_by is_refutation told + count_by is_unknown told ≡ length told

-- so it is with the replies to a script in form, whatever the history
abbrev pub RepliesAreCounted : Type 0
RepliesAreCounted = (s : Scripted) (history : List Event) → IsScript limits s → AreCounted (replies s history) (all_told s history)
