use Rattle.std.proofs.Common.{◌≡◌, drop, flat_map}
use Rattle.mal_pool.specs.Refusals.{IsOneRefused}
use Rattle.mal_pool.specs.Runs.{left_by, posted_on}
use Rattle.mal_pool.proofs.leaving.post_left.Given as goal

abbrev pub invariant-loop-one : goal.invariant-loop-one
invariant-loop-one l = record {
  workers : l.hall.workers ≡ l.fn.hall.workers;
  events : posted_on l.hall.events (flat_map (left_by l.jobs) (drop l.one-index l.initial.left)) ≡ posted_on l.fn.hall.events (flat_map (left_by l.jobs) l.initial.left);
  refused : IsOneRefused l.hall.workers l.hall.events (flat_map (left_by l.jobs) (drop l.one-index l.initial.left)) → IsOneRefused l.fn.hall.workers l.fn.hall.events (flat_map (left_by l.jobs) l.initial.left);
}
