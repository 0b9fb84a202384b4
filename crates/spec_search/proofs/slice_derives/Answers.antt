use Rattle.spec_search.proofs.LineLemmas.{lines-derived, held-of_lines, lines-stay_within, lines-counted, slice-refutes}
use Rattle.spec_search.proofs.EmptyLemmas.{empty-refutes}
use Rattle.spec_search.proofs.slice_derives.Goals as goal

pub returns : goal.returns
returns c = record { derived = lines-derived; held = held-of_lines; within = lines-stay_within; counted = lines-counted; refutes = slice-refutes; empty = empty-refutes }
