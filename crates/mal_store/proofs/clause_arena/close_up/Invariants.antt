use Rattle.std.proofs.Common.{◌≡◌, vec_len, vec_capacity}
use Rattle.mal_store.proofs.LaidLemmas.{IsClosing}
use Rattle.mal_store.proofs.clause_arena.close_up.Given as goal

abbrev pub invariant-loop-place : goal.invariant-loop-place
invariant-loop-place l =
    record {
      closing : IsClosing l.fn.literals.items l.literals.items l.fn.headers.items l.headers.items l.place l.end;
      headers : vec_len l.headers ≡ vec_len l.fn.headers;
      header_room : vec_capacity l.headers ≡ vec_capacity l.fn.headers;
      literals : vec_len l.literals ≡ vec_len l.fn.literals;
      room : vec_capacity l.literals ≡ vec_capacity l.fn.literals;
    }
