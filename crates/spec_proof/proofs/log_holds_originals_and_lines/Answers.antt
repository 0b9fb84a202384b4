use Rattle.spec_proof.proofs.LogLemmas.{log-holds, log-orderly}
use Rattle.spec_proof.proofs.log_holds_originals_and_lines.Goals as goal

pub returns-clause-holds : goal.returns-clause-holds
returns-clause-holds c = log-holds

pub returns-clause-orderly : goal.returns-clause-orderly
returns-clause-orderly c = log-orderly
