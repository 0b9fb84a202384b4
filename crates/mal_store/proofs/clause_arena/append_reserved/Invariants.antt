use Rattle.std.proofs.Common.{◌≡◌, ◌+◌, ◌++◌, drop, vec_len, vec_capacity}
use Rattle.mal_store.proofs.clause_arena.append_reserved.Given as goal

abbrev pub invariant-loop-lit : goal.invariant-loop-lit
invariant-loop-lit l =
    record {
      done : l.list.items ++ drop l.lit-index l.lits ≡ l.fn.list.items ++ l.lits;
      len : vec_len l.list ≡ vec_len l.fn.list + l.lit-index;
      room : vec_capacity l.list ≡ vec_capacity l.fn.list;
    }
