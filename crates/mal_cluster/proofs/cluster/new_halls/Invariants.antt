use Rattle.std.proofs.Common.{◌≡◌, All, [], replicate}
use Rattle.mal_cluster.specs.Kept.{histories}
use Rattle.mal_cluster.proofs.cluster.new_halls.Given as goal

abbrev pub invariant-loop : goal.invariant-loop
invariant-loop l = record {
  each : All (λ h. h.workers ≡ l.workers) l.made.items;
  events : histories l.made.items ≡ replicate l.counter [];
}
