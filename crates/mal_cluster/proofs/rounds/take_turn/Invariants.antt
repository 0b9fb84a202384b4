use Rattle.std.proofs.Common.{◌≡◌}
use Rattle.mal_cluster.specs.Turning.{HasTurns}
use Rattle.mal_cluster.proofs.TurningLemmas.{GoesOn, StopsOn}
use Rattle.mal_cluster.proofs.rounds.take_turn.Given as goal

abbrev pub invariant-loop : goal.invariant-loop
invariant-loop l = record {
  workers : l.hall.workers ≡ l.fn.hall.workers;
  turns : HasTurns l.fn.hall.workers l.fn.hall.events l.hall.events;
  goes : GoesOn l.fn.hall.workers l.every l.counter l.fn.hall.events l.hall.events;
  stops : StopsOn l.fn.hall.workers l.every l.counter l.fn.hall.events l.hall.events;
}
