use Rattle.std.proofs.Common.{◌≡◌, ◌≤◌, take}
use Rattle.mal_pool.specs.Parts.{demand_of}
use Rattle.mal_pool.proofs.demand.useful.Given as goal

abbrev pub invariant-loop-job : goal.invariant-loop-job
invariant-loop-job l = record {
  sum : l.sum ≡ demand_of (take l.job-index l.jobs);
  low : l.sum ≤ l.workers;
}
