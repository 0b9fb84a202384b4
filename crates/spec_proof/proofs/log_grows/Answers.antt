use Rattle.spec_proof.proofs.LogLemmas.{log-empty}
use Rattle.spec_proof.proofs.Growing.{log-grows, log-takes-proof, log-takes-originals}
use Rattle.spec_proof.proofs.log_grows.Goals as goal

pub returns-clause-empty : goal.returns-clause-empty
returns-clause-empty c = log-empty

pub returns-clause-lines : goal.returns-clause-lines
returns-clause-lines c = log-grows

pub returns-clause-originals : goal.returns-clause-originals
returns-clause-originals c = log-takes-originals

pub returns-clause-proofs : goal.returns-clause-proofs
returns-clause-proofs c = log-takes-proof
