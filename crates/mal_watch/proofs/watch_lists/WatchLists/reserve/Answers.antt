use Rattle.std.proofs.Common.{◌≤◌, ◌-◌, length, vec_len, arith}
use Rattle.std.proofs.lemmas.List.{take_all}
use Rattle.mal_watch.specs.Watches.{links_of, keys_of}
use Rattle.mal_watch.proofs.WiderLemmas.{wider, head-more}
use Rattle.mal_watch.proofs.ListedLemmas.{listed-more}
use Rattle.mal_watch.proofs.watch_lists.WatchLists.reserve.Goals as goal

pub invariant_of-self-in-Continue-branch-3 : goal.invariant_of-self-in-Continue-branch-3
invariant_of-self-in-Continue-branch-3 c =
    let s = c.self.inside in
    let few : length s.heads.items ≤ c.args.lists = omega (arith, c.if-len-lists.true, c.len-2.ensures) in
    let more = c.args.lists - vec_len s.heads in (
      rw (c.reserve.ensures.items, c.in_ok-resize.ensures.items, c.none.ensures, take_all c.args.lists s.heads.items few) (wider s.heads.items (links_of s.watches.items) (keys_of s.watches.items) more c.self.invariant.0),
      rw (c.reserve.ensures.items, c.in_ok-resize.ensures.items, c.none.ensures, take_all c.args.lists s.heads.items few, head-more s.heads.items more s.walked) c.self.invariant.1,
      rw c.reserve.ensures.items (listed-more (length s.heads.items) _ (keys_of s.watches.items) (omega (arith, few, c.in_ok-resize.ensures.len)) c.self.invariant.2),
    )
