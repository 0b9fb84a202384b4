use Rattle.spec_run.proofs.DecidedLemmas.{run-is_decided}
use Rattle.spec_run.proofs.run_is_decided.Goals as goal

pub returns : goal.returns
returns c = run-is_decided
