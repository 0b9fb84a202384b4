use Rattle.spec_search.proofs.ModelLemmas.{slice-keeps_model, slice-solves}
use Rattle.spec_search.proofs.slice_has_model.Goals as goal

pub returns : goal.returns
returns c = record { keeps = slice-keeps_model; solves = slice-solves }
