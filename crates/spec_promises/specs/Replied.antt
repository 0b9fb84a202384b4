-- What is written of a script that was run: a reply to each revision of each job, in the order of the script.
use Rattle.std.specs.Prelude.{◌≡◌, ℕ, ◌+◌, List, [], ◌∷◌, map, flat_map}
use Rattle.mal_base.specs.declared.profile.Profile.{Profile}
use Rattle.mal_base.specs.Limits.{limits}
use Rattle.mal_revision.specs.Posted.{Posted}
use Rattle.mal_history.specs.declared.event.Event as written
use Rattle.spec_hall.specs.Events.{Event}
use Rattle.spec_script.specs.Formed.{IsScript}
use Rattle.spec_script.specs.Script.{ScriptedJob, Scripted, revisions}
use Rattle.spec_run.specs.Run.{IsRun}
use Rattle.spec_run.specs.Replayed.{IsReplied}
use Rattle.spec_cluster.specs.Clusters.{Cluster}
use Rattle.spec_cluster.specs.Run.{IsClusterRun}
use Rattle.spec_promises.specs.Tells.{Reply, text_of_replies}

-- all of a reply but what it tells
pub record Heading : Type 0 where
  pub tenant : List ℕ
  pub job : List ℕ
  pub number : ℕ
  pub profile : Profile

-- the heading of a reply
abbrev pub heading : Reply → Heading
heading r = record { tenant = r.tenant; job = r.job; number = r.number; profile = r.profile }

-- the headings of the replies to revisions of a job, of which the first has this number
abbrev pub headings_from : ScriptedJob → ℕ → List Posted → List Heading
headings_from j n [] = []
headings_from j n (r ∷ rs) = record { tenant = j.tenant; job = j.name; number = n; profile = j.ask.profile } ∷ headings_from j (n + 1) rs

-- the headings of the replies to a job, and to a script
abbrev pub headings_of : ScriptedJob → List Heading
headings_of j = headings_from j 1 (revisions j)

abbrev pub headings : Scripted → List Heading
headings s = flat_map headings_of s.jobs

-- a text is replies to a script: job by job, to each revision one, and nothing else. What they tell is not said here
pub record RepliesToAll (s : Scripted) (out : List ℕ) : Type 0 where
  pub told : List Reply
  pub text : out ≡ text_of_replies told
  pub each : map heading told ≡ headings s

-- so it is with the output of a run, with the text that a history is replayed to, and with the output of a cluster
abbrev pub RunRepliesToAll : Type 0
RunRepliesToAll = (workers : ℕ) (s : Scripted) (history : List Event) (log out : List ℕ) → IsScript limits s → IsRun workers s history log out → RepliesToAll s out

abbrev pub ReplayRepliesToAll : Type 0
ReplayRepliesToAll = (workers : ℕ) (s : Scripted) (lines : List written.Event) (text : List ℕ) → IsScript limits s → IsReplied workers s lines text → RepliesToAll s text

abbrev pub ClusterRepliesToAll : Type 0
ClusterRepliesToAll =
    (halls workers every : ℕ) (s : Scripted) (rounds : List Cluster) (end : Cluster) (log out : List ℕ)
    → IsScript limits s → IsClusterRun halls workers every s rounds end log out → RepliesToAll s out
