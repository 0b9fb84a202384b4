use Rattle.std.proofs.Common.{◌≡◌, ◌+◌, ◌++◌, drop, vec_len, vec_capacity}
use Rattle.mal_io.proofs.memory.push_all.Given as goal

abbrev pub invariant-loop-byte : goal.invariant-loop-byte
invariant-loop-byte l = record {
  items : l.bytes.items ++ drop l.byte-index l.front ≡ l.fn.bytes.items ++ l.front;
  len : vec_len l.bytes ≡ vec_len l.fn.bytes + l.byte-index;
  capacity : vec_capacity l.bytes ≡ vec_capacity l.fn.bytes;
}
