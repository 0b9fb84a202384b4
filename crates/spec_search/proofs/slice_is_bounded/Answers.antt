use Rattle.spec_search.proofs.CountLemmas.{slice-goes_on, slice-fits, slice-counts}
use Rattle.spec_search.proofs.slice_is_bounded.Goals as goal

pub returns : goal.returns
returns c = record { goes_on = slice-goes_on; room = slice-fits; counts = slice-counts }
