use Rattle.std.proofs.Common.{◌≡◌, ◌-◌}
use Rattle.mal_parcel.specs.Taking.{behind_each, behind_node}
use Rattle.mal_parcel.proofs.passing.behind_nodes.Given as goal

abbrev pub invariant-loop : goal.invariant-loop
invariant-loop l = behind_each behind_node (l.count - l.counter) l.rest ≡ behind_each behind_node l.count l.bytes
