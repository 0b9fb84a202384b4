use Rattle.spec_run.proofs.ReplayLemmas.{replay-is_decided}
use Rattle.spec_run.proofs.replay.replay_is_decided.Goals as goal

pub returns : goal.returns
returns c = replay-is_decided
