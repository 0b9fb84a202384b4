-- What a cluster keeps.
use Rattle.std.specs.Prelude.{◌≡◌, ℕ, All, List, map}
use Rattle.mal_hall.specs.HallView.{HallView}
use Rattle.spec_hall.specs.Events.{Event}
use Rattle.spec_cluster.specs.Clusters.{Cluster, IsCluster}
use Rattle.spec_cluster.specs.Visits.{Move}

-- the histories of halls
abbrev pub histories : List HallView → List (List Event)
histories halls = map (λ h. h.events) halls

-- a cluster of these halls
abbrev pub cluster_of : ℕ → List HallView → List Move → Cluster
cluster_of workers halls moves = record { workers = workers; halls = histories halls; moves = moves }

-- each hall has so many workers, and what holds of a cluster between its calls holds of these halls
pub record IsKept (workers : ℕ) (halls : List HallView) (moves : List Move) : Type 0 where
  pub each : All (λ h. h.workers ≡ workers) halls
  pub cluster : IsCluster (cluster_of workers halls moves)
