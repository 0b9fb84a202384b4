use Rattle.std.proofs.Common.{◌≡◌, ◌+◌, ◌-◌, ◌++◌, replicate, vec_len, vec_capacity}
use Rattle.mal_cdcl.proofs.node_load.push_phases.Given as goal

abbrev pub invariant-loop-place : goal.invariant-loop-place
invariant-loop-place l =
    record {
      done : l.phases.items ++ replicate (l.added - l._place) l.phase ≡ l.fn.phases.items ++ replicate l.added l.phase;
      len : vec_len l.phases ≡ vec_len l.fn.phases + l._place;
      capacity : vec_capacity l.phases ≡ vec_capacity l.fn.phases;
    }
