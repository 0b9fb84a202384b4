use Rattle.std.specs.Prelude.{◌≡◌, true, false, List}
use Rattle.std.specs.List.{list_any}
use Rattle.mal_revision.specs.Posted.{Posted}
use Rattle.spec_job.specs.SoloMachine.{solo}
use Rattle.spec_job.specs.KeyedJob.{Key}
use Rattle.spec_hall.specs.Events.{Event}
use Rattle.spec_hall.specs.Own.{own, is_key}
use Rattle.spec_hall.specs.States.{keys_of}

-- the job of a key is there and open, and has these revisions
pub record IsOpen (k : Key) (revisions : List Posted) (history : List Event) : Type 0 where
  pub known : list_any (is_key k) (keys_of history) ≡ true
  pub unclosed : (solo (own k history)).closed ≡ false
  pub posted : (solo (own k history)).revisions ≡ revisions
