use Rattle.std.proofs.Common.{◌≡◌, ℕ, length, take, Option}
use Rattle.mal_watch.specs.Watches.{links_of, keys_of}
use Rattle.mal_watch.specs.WatchLists.{list_from, IsList, IsWalk}
use Rattle.mal_watch.specs.Watching.{from_open}
use Rattle.mal_watch.proofs.watch_lists.passed.Given as goal

abbrev pub invariant-loop-watch : goal.invariant-loop-watch
invariant-loop-watch l =
    let links = links_of l.watches in
    record {
      list : IsList links l.taken (list_from links (length links) l.taken);
      rest : from_open (take l.count l.trail.entries) (keys_of l.watches) (list_from links (length links) l.taken) ≡ from_open (take l.count l.trail.entries) (keys_of l.watches) (list_from links (length links) l.fn.from);
      walk : (head : Option ℕ) → IsWalk links head l.fn.from l.fn.before → IsWalk links head l.taken l.last;
    }

abbrev pub decreases-loop-watch : goal.decreases-loop-watch
decreases-loop-watch l = length (list_from (links_of l.watches) (length (links_of l.watches)) l.taken)
