use Rattle.std.proofs.Common.{◌≡◌, ◌++◌, take}
use Rattle.std.specs.Prelude.{All}
use Rattle.std.specs.List.{flat_map}
use Rattle.spec_parcel.specs.Packed.{node_bytes}
use Rattle.mal_parcel.specs.Parcelled.{IsReadBack}
use Rattle.mal_parcel.proofs.nodes.put_each.Given as goal

abbrev pub invariant-loop-index : goal.invariant-loop-index
invariant-loop-index l = record {
  nodes : l.out.items ≡ l.initial.out.items ++ flat_map (node_bytes l.job.titled.state) (take l.index-index l.indices);
  again : All (IsReadBack l.job.titled.state) (take l.index-index l.indices);
}
