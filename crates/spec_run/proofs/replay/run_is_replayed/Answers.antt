use Rattle.spec_run.proofs.RunLemmas.{run-is_replied, run-is_formed, run-is_replayed}
use Rattle.spec_run.proofs.replay.run_is_replayed.Goals as goal

pub returns : goal.returns
returns c = record { replied = run-is_replied; formed = run-is_formed; replayed = run-is_replayed }
