use Rattle.std.proofs.Common.{◌≡◌, ◌++◌}
use Rattle.spec_hall.specs.Calls.{recalled}
use Rattle.mal_hall.proofs.RecallLemmas.{AreHome, left_to_lose}
use Rattle.mal_hall.proofs.hall.Hall.recall.Given as goal

abbrev pub invariant-loop-worker : goal.invariant-loop-worker
invariant-loop-worker l = record {
  workers : l.self.workers ≡ l.fn.self.workers;
  inside : l.self.inside ≡ l.fn.self.inside;
  grown : l.self.events ++ left_to_lose l.fn.self.workers l.worker l.self.events ≡ l.fn.self.events ++ recalled l.fn.self.workers l.fn.self.events;
  home : AreHome l.worker l.self.events;
}
