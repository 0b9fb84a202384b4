use Rattle.std.proofs.Common.{◌≡◌, ℕ, List, ◌++◌, length}
use Rattle.std.specs.Io.KnownBytes.{Appends}
use Rattle.mal_io.proofs.whole.write_all.Given as goal

abbrev pub invariant-pieces : goal.invariant-pieces
invariant-pieces g l = let sink = g.K.Sink in record {
  gained : (prefix : List ℕ) × (l.bytes ≡ prefix ++ l.rest) × Appends (sink.got l.fn.sink) (sink.got l.sink) prefix;
  counted : sink.faults l.sink ≡ sink.faults l.fn.sink;
}

abbrev pub decreases-pieces : goal.decreases-pieces
decreases-pieces g l = length l.rest
