use Rattle.std.proofs.Common.{refl}
use Rattle.std.specs.Fmt.{digits}
use Rattle.mal_freeze.specs.Spelling.{spelled}
use Rattle.spec_seq.specs.Luby.{luby}
use Rattle.spec_search.specs.Slice.{slice}
use Rattle.spec_script.specs.Script.{spelling}
use Rattle.spec_parcel.specs.Packed.{parcel_bytes, ran_indices}
use Rattle.spec_parcel.specs.Examples.{HasPieces, HasRuns, HasTexts}

pub texts : HasTexts
unfolding spelling digits spelled parcel_bytes ran_indices
texts = record { script = refl; events = refl; parcel = refl; asked_anew = refl; each = refl }

pub pieces : HasPieces
unfolding digits spelled
pieces = record { satisfied = refl; refuted = refl; spent = refl; out_of_starts = refl; ending = refl; going_on = refl; sized = refl; listed = refl }

pub runs : HasRuns
unfolding spelled slice luby ran_indices
runs = record { none_ran = refl; both_ran = refl; one_ends = refl; slices = refl; answers = refl }
