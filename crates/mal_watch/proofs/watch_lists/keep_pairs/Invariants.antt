use Rattle.std.proofs.Common.{◌≡◌, vec_len, vec_capacity}
use Rattle.mal_watch.proofs.ListedLemmas.{IsKeeping}
use Rattle.mal_watch.proofs.watch_lists.keep_pairs.Given as goal

abbrev pub invariant-loop-place : goal.invariant-loop-place
invariant-loop-place l =
    record {
      keeping : IsKeeping l.ids l.store.long l.fn.watches.items l.watches.items l.kept l.place;
      len : vec_len l.watches ≡ vec_len l.fn.watches;
      capacity : vec_capacity l.watches ≡ vec_capacity l.fn.watches;
    }
