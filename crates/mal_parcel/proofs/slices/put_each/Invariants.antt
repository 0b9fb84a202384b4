use Rattle.std.proofs.Common.{◌≡◌, ◌++◌, take}
use Rattle.std.specs.List.{flat_map}
use Rattle.spec_parcel.specs.Packed.{slice_bytes}
use Rattle.mal_parcel.proofs.slices.put_each.Given as goal

abbrev pub invariant-loop-n : goal.invariant-loop-n
invariant-loop-n l = l.out.items ≡ l.initial.out.items ++ flat_map slice_bytes (take l.n l.job.titled.state.slices)
