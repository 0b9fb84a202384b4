use Rattle.std.proofs.Common.{◌≡◌, ◌-◌}
use Rattle.mal_parcel.specs.Taking.{behind_each, behind_slice}
use Rattle.mal_parcel.proofs.passing.behind_slices.Given as goal

abbrev pub invariant-loop : goal.invariant-loop
invariant-loop l = behind_each behind_slice (l.count - l.counter) l.rest ≡ behind_each behind_slice l.count l.bytes
