use Rattle.std.proofs.Common.{◌≡◌, take, vec_len, vec_capacity}
use Rattle.mal_watch.specs.Watches.{links_of, keys_of}
use Rattle.mal_watch.specs.WatchLists.{AreLinked}
use Rattle.mal_watch.proofs.watch_lists.link_all.Given as goal

abbrev pub invariant-loop-place : goal.invariant-loop-place
invariant-loop-place l =
    record {
      linked : AreLinked l.heads.items (links_of (take l.place l.watches.items)) (keys_of (take l.place l.watches.items));
      keys : keys_of l.watches.items ≡ keys_of l.fn.watches.items;
      watches : vec_len l.watches ≡ vec_len l.fn.watches;
      lists : vec_len l.heads ≡ vec_len l.fn.heads;
      capacity : vec_capacity l.watches ≡ vec_capacity l.fn.watches;
    }
