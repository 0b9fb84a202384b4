-- A parcel, and what its type keeps.
use Rattle.std.specs.Prelude.{◌≡◌, ℕ, List, All, Ok}
use Rattle.mal_freeze.specs.Reading.{image_in}
use Rattle.mal_freeze.specs.Spelling.{image_bytes}
use Rattle.spec_job.specs.Counts.{starts_out}
use Rattle.spec_job.specs.KeyedJob.{Key}
use Rattle.spec_job.specs.Lawful.{IsLawful}
use Rattle.spec_job.specs.SoloMachine.{Own, SoloMachine, solo}
use Rattle.spec_parcel.specs.Packed.{node_at, parcel_bytes, ran_indices}

-- a parcel as contracts see it: the job's key and its own events
pub record Parcelled : Type 0 where
  pub key : Key
  pub own : List Own

-- the image of the node of a place is read to that node
abbrev pub IsReadBack : SoloMachine → ℕ → Type 0
IsReadBack s i = image_in (image_bytes (node_at s i)) ≡ Ok (node_at s i)

-- the own events are lawful, no start is out after them and no volume is left, the bytes are those of the job, and the
-- image of each node that has run is read to that node
pub record IsParcel (key : Key) (own : List Own) (bytes : List ℕ) : Type 0 where
  pub lawful : IsLawful own
  pub home : starts_out (solo own).places ≡ 0
  pub still : (solo own).volume ≡ 0
  pub spelled : bytes ≡ parcel_bytes key own
  pub again : All (IsReadBack (solo own)) (ran_indices (solo own))
