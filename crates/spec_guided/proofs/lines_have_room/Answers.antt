use Rattle.spec_guided.proofs.SlicedLemmas.{lines-counted, lines-fit, slice-goes_on}
use Rattle.spec_guided.proofs.lines_have_room.Goals as goal

pub returns : goal.returns
returns c = record { counted = lines-counted; room = lines-fit; one = slice-goes_on }
