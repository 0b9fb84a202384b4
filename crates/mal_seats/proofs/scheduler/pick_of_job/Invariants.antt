use Rattle.std.proofs.Common.{◌≡◌, ◌-◌, fold}
use Rattle.spec_node.specs.Load.{counted}
use Rattle.spec_hall.specs.Seats.{pick_node, pick_job}
use Rattle.mal_seats.proofs.scheduler.pick_of_job.Given as goal

abbrev pub invariant-loop-index : goal.invariant-loop-index
invariant-loop-index l = fold (pick_node l.job l.seat.job.titled.state) l.best (counted l.index (l.seat.job.titled.state.volume - l.index)) ≡ pick_job l.job l.seat.job.titled.state l.fn.best
