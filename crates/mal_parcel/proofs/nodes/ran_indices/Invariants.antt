use Rattle.std.proofs.Common.{◌≡◌, ◌≤◌, ◌++◌}
use Rattle.std.specs.Prelude.{All}
use Rattle.spec_parcel.specs.Packed.{ran_indices}
use Rattle.mal_parcel.proofs.NodeLemmas.{ran_from}
use Rattle.mal_parcel.proofs.nodes.ran_indices.Given as goal

-- the indices so far and those that are left are all
abbrev pub invariant-loop-index : goal.invariant-loop-index
invariant-loop-index l = record {
  indices : l.indices.items ++ ran_from l.job.titled.state l.index ≡ ran_indices l.job.titled.state;
  low : All (λ i. i ≤ 63) l.indices.items;
}
