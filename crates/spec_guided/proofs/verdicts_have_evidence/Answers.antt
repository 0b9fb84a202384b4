use Rattle.spec_guided.proofs.SliceLemmas.{slice-model, step-refutes}
use Rattle.spec_guided.proofs.SlicedLemmas.{slice-refutes, empty-refutes}
use Rattle.spec_guided.proofs.verdicts_have_evidence.Goals as goal

pub returns : goal.returns
returns c = record { model = slice-model; refutes = step-refutes; goal = slice-refutes; empty = empty-refutes }
