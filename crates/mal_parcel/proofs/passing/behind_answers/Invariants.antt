use Rattle.std.proofs.Common.{◌≡◌, drop, flat_map, length, take}
use Rattle.spec_parcel.specs.Packed.{answer_bytes}
use Rattle.mal_parcel.proofs.passing.behind_answers.Given as goal

abbrev pub invariant-loop-answer : goal.invariant-loop-answer
invariant-loop-answer l = l.rest ≡ drop (length (flat_map answer_bytes (take l.answer-index l.answers))) l.bytes
