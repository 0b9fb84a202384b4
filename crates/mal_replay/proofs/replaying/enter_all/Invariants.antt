use Rattle.mal_replay.specs.Replaying.{HasReplayed}
use Rattle.mal_replay.proofs.replaying.enter_all.Given as goal

abbrev pub invariant-loop-n : goal.invariant-loop-n
invariant-loop-n l = HasReplayed l.script l.history l.n l.hall
