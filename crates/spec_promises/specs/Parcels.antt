-- The bytes that a job is moved as tell the job and all that it did.
use Rattle.std.specs.Prelude.{◌≡◌, true, List}
use Rattle.mal_base.specs.Names.{is_name}
use Rattle.spec_job.specs.KeyedJob.{Key}
use Rattle.spec_job.specs.Lawful.{IsLawful}
use Rattle.spec_job.specs.SoloMachine.{Own}
use Rattle.spec_parcel.specs.Apart.{FitSections, sections_of}
use Rattle.spec_parcel.specs.Packed.{parcel_bytes}

-- lawful own events of a job that has a name, where 8 bytes hold the lengths and counts of what is packed: a lawful job
-- may be asked anew without end
pub record IsParcel (k : Key) (own : List Own) : Type 0 where
  pub tenant : is_name k.tenant ≡ true
  pub job : is_name k.job ≡ true
  pub lawful : IsLawful own
  pub sized : FitSections (sections_of k own)

-- two parcels of the same bytes are of one job, which did the same
abbrev pub ParcelIsTold : Type 0
ParcelIsTold = (k l : Key) (one other : List Own) → IsParcel k one → IsParcel l other → parcel_bytes k one ≡ parcel_bytes l other → (k ≡ l) × (one ≡ other)
