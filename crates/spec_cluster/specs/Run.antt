-- A script that is run in a cluster.
use Rattle.std.specs.Prelude.{◌≡◌, ℕ, ◌+◌, ◌%◌, Bool, true, ◌&&◌, ◌==◌, List, [], ◌∷◌, ◌++◌, map, flat_map, if◌then◌else◌}
use Rattle.std.specs.List.{list_all}
use Rattle.mal_history.specs.Text.{history_text}
use Rattle.spec_node.specs.Load.{counted}
use Rattle.spec_job.specs.KeyedJob.{Key}
use Rattle.spec_job.specs.SoloMachine.{solo}
use Rattle.spec_hall.specs.Events.{bare}
use Rattle.spec_script.specs.Script.{ScriptedJob, Scripted, revisions}
use Rattle.spec_script.specs.declared.step.Step.{Step}
use Rattle.spec_script.specs.declared.step.Step.TheVariants as steps
use Rattle.spec_run.specs.Complete.{key_of_job, script_events}
use Rattle.spec_run.specs.Run.{IsEvident, replies_from}
use Rattle.spec_cluster.specs.Clusters.{Cluster, IsCluster}
use Rattle.spec_cluster.specs.Rounds.{AreRounds}
use Rattle.spec_cluster.specs.Visits.{all_of}

-- the jobs that a hall gets of those that are dealt out in turn, of which the first has this place
abbrev pub dealt_from : ℕ → ℕ → ℕ → List ScriptedJob → List ScriptedJob
dealt_from halls n i [] = []
dealt_from halls n i (j ∷ js) = (if i % halls == n then j ∷ [] else []) ++ dealt_from halls n (i + 1) js

-- the script of each hall where the jobs of one are dealt out in turn
abbrev pub dealt : ℕ → Scripted → List Scripted
dealt halls s = map (λ n. record { jobs = dealt_from halls n 0 s.jobs }) (counted 0 halls)

-- a cluster in which each hall got all that its jobs post
abbrev pub posted : ℕ → ℕ → Scripted → Cluster
posted halls workers s = record { workers = workers; halls = map script_events (dealt halls s); moves = [] }

-- the texts of all histories, hall by hall
abbrev pub histories_text : Cluster → List ℕ
histories_text c = flat_map (λ h. history_text c.workers (map bare h)) c.halls

-- the replies to a job: those of its machine, run alone on all that the job did
abbrev pub moved_replies : Cluster → ScriptedJob → List ℕ
moved_replies c j = replies_from (key_of_job j) 1 (solo (all_of (key_of_job j) c.halls c.moves)) (revisions j)

-- the replies to a script, job by job in its order
unfoldable pub cluster_replies : Scripted → Cluster → List ℕ
cluster_replies s c = flat_map (moved_replies c) s.jobs

-- a script was run in so many halls of so many workers, and after each so many slices of a hall its first live job went
-- on: the log is the histories of the halls, the output the replies of the jobs' machines, each run alone on all that the
-- job did, and their answers are evidence
pub record IsClusterRun (halls workers every : ℕ) (s : Scripted) (rounds : List Cluster) (end : Cluster) (log out : List ℕ) : Type 0 where
  pub rounds_are : AreRounds every (posted halls workers s) rounds end
  pub cluster : IsCluster end
  pub log_text : log ≡ histories_text end
  pub out_text : out ≡ cluster_replies s end
  pub evident : (k : Key) → IsEvident (all_of k end.halls end.moves)

-- whether a step leaves a job's demand at 1
abbrev pub step_for_one : Step → Bool
step_for_one (steps.Revise r) = true
step_for_one (steps.Reask w) = w.demand == 1

-- whether a job always asks for one worker
abbrev pub is_for_one : ScriptedJob → Bool
is_for_one j = (j.ask.demand == 1) && list_all step_for_one j.steps
