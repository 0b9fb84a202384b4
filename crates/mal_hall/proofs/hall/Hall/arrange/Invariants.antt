use Rattle.std.proofs.Common.{◌≡◌, Some}
use Rattle.spec_hall.specs.Measure.{left_in}
use Rattle.spec_hall.specs.States.{balanced, lives, states}
use Rattle.mal_hall.specs.Offered.{HasArranged}
use Rattle.mal_hall.proofs.hall.Hall.arrange.Given as goal

abbrev pub invariant-loop : goal.invariant-loop
invariant-loop l = record {
  workers : l.self.workers ≡ l.fn.self.workers;
  inside : l.self.inside ≡ l.fn.self.inside;
  due : HasArranged l.fn.self.workers l.fn.self.events l.self.events;
  calm : Some (lives (states l.self.events)) ≡ balanced l.self.events;
}

abbrev pub decreases-loop : goal.decreases-loop
decreases-loop l = left_in l.self.events
