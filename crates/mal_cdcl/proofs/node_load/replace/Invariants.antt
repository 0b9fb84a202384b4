use Rattle.std.proofs.Common.{◌≡◌, ◌++◌, drop, vec_len, vec_capacity}
use Rattle.mal_cdcl.proofs.node_load.replace.Given as goal

abbrev pub invariant-loop-lit : goal.invariant-loop-lit
invariant-loop-lit l =
    record {
      done : l.assumptions.items ++ drop l.lit-index l.lits ≡ l.lits;
      len : vec_len l.assumptions ≡ l.lit-index;
      capacity : vec_capacity l.assumptions ≡ vec_capacity l.fn.assumptions;
    }
