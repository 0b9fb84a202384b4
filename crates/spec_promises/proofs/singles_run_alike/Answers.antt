use Rattle.spec_promises.proofs.Singles.{singles_run_alike, single_replays_are_alike, single_runs_are_alike}
use Rattle.spec_promises.proofs.singles_run_alike.Goals as goal

pub returns-clause-job : goal.returns-clause-job
returns-clause-job c = singles_run_alike

pub returns-clause-all : goal.returns-clause-all
returns-clause-all c = single_runs_are_alike

pub returns-clause-replays : goal.returns-clause-replays
returns-clause-replays c = single_replays_are_alike
