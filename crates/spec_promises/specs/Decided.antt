-- What is decided where no start runs out of memory: what `max` and `core` write, and a run in a cluster.
use Rattle.std.specs.Prelude.{◌≡◌, ℕ, List}
use Rattle.spec_run.specs.Run.{IsFed}
use Rattle.spec_script.specs.Script.{Scripted}
use Rattle.spec_max.specs.Optimum as optimum
use Rattle.mal_max.specs.Found as max
use Rattle.mal_max.specs.Texts.{optimum_text}
use Rattle.spec_core.specs.Core as minimal
use Rattle.mal_core.specs.Found as core
use Rattle.mal_core.specs.Texts.{minimal_text}
use Rattle.spec_cluster.specs.Clusters.{Cluster}
use Rattle.spec_cluster.specs.Run.{IsClusterRun}
use Rattle.spec_cluster.specs.Visits.{hall_at}

-- two optima that are found for an instance are written alike: so is what `max` writes
abbrev pub MaxIsDecided : Type 0
MaxIsDecided =
    (slices : ℕ) (w : optimum.Instance) (one other : optimum.Optimum) (found : max.IsFound slices w one) (also : max.IsFound slices w other)
    → IsFed found.search.history → IsFed also.search.history → optimum_text one ≡ optimum_text other

-- and so is what two searches for a minimal core come to, which `core` writes
abbrev pub CoreIsDecided : Type 0
CoreIsDecided =
    (slices : ℕ) (w : minimal.Instance) (one other : minimal.Minimal) (found : core.IsFound slices w one) (also : core.IsFound slices w other)
    → IsFed found.search.history → IsFed also.search.history → minimal_text one ≡ minimal_text other

-- no start of any hall ran out of memory
abbrev pub AreFed : Cluster → Type 0
AreFed c = (n : ℕ) → IsFed (hall_at c.halls n)

-- two runs in a cluster are the same
pub record AreSameRuns (one other : Cluster) (log_one log_other out_one out_other : List ℕ) : Type 0 where
  pub ends : one ≡ other
  pub logs : log_one ≡ log_other
  pub outs : out_one ≡ out_other

-- a script, the halls, their workers and how often jobs go on decide the histories, the log and the output
abbrev pub ClusterIsDecided : Type 0
ClusterIsDecided =
    (halls workers every : ℕ) (s : Scripted) (rounds others : List Cluster) (one other : Cluster) (log_one log_other out_one out_other : List ℕ)
    → IsClusterRun halls workers every s rounds one log_one out_one → IsClusterRun halls workers every s others other log_other out_other
    → AreFed one → AreFed other → AreSameRuns one other log_one log_other out_one out_other
