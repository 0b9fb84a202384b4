use Rattle.spec_promises.proofs.Parcels.{parcel_is_told}
use Rattle.spec_promises.proofs.parcel_is_told.Goals as goal

pub returns : goal.returns
returns c = parcel_is_told
