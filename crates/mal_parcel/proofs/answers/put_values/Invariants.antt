use Rattle.std.proofs.Common.{◌≡◌, ◌++◌, map, take}
use Rattle.mal_freeze.specs.Spelling.{phase_code}
use Rattle.mal_parcel.proofs.answers.put_values.Given as goal

abbrev pub invariant-loop-value : goal.invariant-loop-value
invariant-loop-value l = l.out.items ≡ l.initial.out.items ++ map phase_code (take l.value-index l.values)
