use Rattle.std.proofs.Common.{◌≡◌, ◌≤◌, drop, fold}
use Rattle.mal_base.specs.Limits.{limits}
use Rattle.mal_pool.specs.Parts.{most_after, most_of}
use Rattle.mal_pool.proofs.demand.most_of.Given as goal

abbrev pub invariant-loop-step : goal.invariant-loop-step
invariant-loop-step l = record {
  most : fold most_after l.most (drop l.step-index l.steps) ≡ most_of l.job;
  bound : l.most ≤ limits.demand;
}
