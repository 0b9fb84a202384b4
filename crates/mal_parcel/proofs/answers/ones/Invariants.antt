use Rattle.std.proofs.Common.{◌≡◌, ℕ, map, take, length}
use Rattle.std.specs.Prelude.{◌==◌}
use Rattle.mal_parcel.proofs.answers.ones.Given as goal

abbrev pub invariant-loop-byte : goal.invariant-loop-byte
invariant-loop-byte l = record { values : l.found.items ≡ map (λ (b : ℕ). b == 1) (take l.byte-index l.bytes); count : length l.found.items ≡ l.byte-index }
