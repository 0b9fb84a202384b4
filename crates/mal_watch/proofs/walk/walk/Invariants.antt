use Rattle.std.proofs.Common.{◌≡◌, ◌≤◌, ◌+◌, ◌++◌, length, take, vec_len, vec_capacity}
use Rattle.mal_watch.specs.Going.{Goes}
use Rattle.mal_watch.specs.Finding.{found_in}
use Rattle.mal_watch.proofs.walk.walk.Given as goal

abbrev pub invariant-loop-watch : goal.invariant-loop-watch
invariant-loop-watch l =
    let prefix = take l.count l.trail.entries in
    record {
      goes : Goes l.trail.entries l.count l.lit l.lists.count l.fn.store.long l.lists.keys l.lists.out;
      found : l.found.items ++ found_in prefix l.trail.entries l.fn.store.long l.lists.out ≡ l.fn.found.items ++ found_in prefix l.trail.entries l.fn.store.long l.fn.lists.out;
      room : vec_len l.found + length l.lists.out ≤ vec_capacity l.found;
      store : l.store ≡ l.fn.store;
      lists : l.lists.count ≡ l.fn.lists.count;
      lists_room : l.lists.room ≡ l.fn.lists.room;
      capacity : vec_capacity l.found ≡ vec_capacity l.fn.found;
    }

abbrev pub decreases-loop-watch : goal.decreases-loop-watch
decreases-loop-watch l = length l.lists.out
