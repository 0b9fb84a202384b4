use Rattle.mal_answer.proofs.Replaying.{run-replays}
use Rattle.mal_answer.proofs.laws.run_replays.Goals as goal

pub returns : goal.returns
returns c = run-replays
