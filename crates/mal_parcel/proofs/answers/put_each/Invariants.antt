use Rattle.std.proofs.Common.{◌≡◌, ◌++◌, take}
use Rattle.std.specs.List.{flat_map}
use Rattle.spec_parcel.specs.Packed.{answer_bytes}
use Rattle.mal_parcel.proofs.answers.put_each.Given as goal

abbrev pub invariant-loop-answer : goal.invariant-loop-answer
invariant-loop-answer l = l.out.items ≡ l.initial.out.items ++ flat_map answer_bytes (take l.answer-index l.answers)
