-- Clusters in which a script is run.
use Rattle.std.specs.Prelude.{◌≡◌, ℕ, true, List, All, is_some}
use Rattle.spec_cluster.specs.Clusters.{Cluster, home}
use Rattle.spec_cluster.specs.Rounds.{AreRounds}
use Rattle.spec_cluster.specs.Run.{dealt_from}
use Rattle.spec_run.specs.Complete.{key_of_job}
use Rattle.spec_script.specs.Script.{ScriptedJob, Scripted}

-- the jobs that the hall at a place gets where those of a script are dealt out in turn
abbrev pub dealt_to : ℕ → ℕ → Scripted → Scripted
dealt_to halls n s = record { jobs = dealt_from halls n 0 s.jobs }

-- some hall has a script's job
abbrev pub IsThere : ScriptedJob → Cluster → Type 0
IsThere j c = is_some (home (key_of_job j) c.halls) ≡ true

-- each of them
abbrev pub AreThere : Scripted → Cluster → Type 0
AreThere s c = All (λ j. IsThere j c) s.jobs

-- rounds have led from one cluster to another, in which no job is live
abbrev pub HasDriven : ℕ → Cluster → Cluster → Type 0
HasDriven every before after = (rounds : List Cluster) × AreRounds every before rounds after
