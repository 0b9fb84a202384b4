use Rattle.std.proofs.Common.{◌≡◌, []}
use Rattle.spec_hall.specs.Driven.{GrowsByTurns}
use Rattle.spec_hall.specs.Measure.{left_in}
use Rattle.spec_hall.specs.States.{leases}
use Rattle.mal_hall.proofs.hall.Hall.drive.Given as goal

abbrev pub invariant-loop : goal.invariant-loop
invariant-loop l = record {
  workers : l.self.workers ≡ l.fn.self.workers;
  inside : l.self.inside ≡ l.fn.self.inside;
  turns : GrowsByTurns l.fn.self.workers l.fn.self.events l.self.events;
  home : leases l.self.events ≡ [];
}

abbrev pub decreases-loop : goal.decreases-loop
decreases-loop l = left_in l.self.events
