use Rattle.spec_proof.proofs.Refuting.{trimmed-refutes}
use Rattle.spec_proof.proofs.trimmed_lines_refute.Goals as goal

pub returns : goal.returns
returns c = trimmed-refutes
