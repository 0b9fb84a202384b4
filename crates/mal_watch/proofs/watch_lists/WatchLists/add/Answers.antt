use Rattle.std.proofs.Common.{◌≡◌, ◌+◌, ◌<◌, ◌≤◌, [], length, None, sym, ◌∙◌, arith}
use Rattle.std.proofs.lemmas.List.{get_or_read, length-set}
use Rattle.mal_watch.specs.declared.watch_lists.Watch.{Watch}
use Rattle.mal_watch.specs.WatchLists.{link_at, list_from}
use Rattle.mal_watch.specs.Watches.{links_of, keys_of}
use Rattle.mal_watch.proofs.LinkedLemmas.{added, idle, idle-out, from-none}
use Rattle.mal_watch.proofs.ListedLemmas.{listed-push}
use Rattle.mal_watch.specs.Links.{nowhere}
use Rattle.mal_watch.proofs.WatchLemmas.{keys-length, links-length, links-push, keys-push}
use Rattle.mal_watch.proofs.watch_lists.WatchLists.add.Goals as goal

pub invariant_of-self : goal.invariant_of-self
invariant_of-self c =
    let s = c.self.inside in
    let links = links_of s.watches.items in
    let watch : Watch = record { next = c.index-next.result.now; key = c.args.key } in
    let inside : c.args.key < length s.heads.items = rw (← c.self.view_is) at c.requires.list in
    let head : c.index-next.result.now ≡ link_at s.heads.items c.code-list.result = get_or_read s.heads.items c.code-list.result c.index-next.result.now (omega (arith, inside, c.code-list.ensures.value)) c.index-next.ensures None in
    let room : length (keys_of s.watches.items) + 1 ≤ nowhere = omega (arith, rw (← c.self.view_is) at c.requires.room, keys-length s.watches.items) in
    let none : s.taken ≡ None = idle-out links (link_at s.heads.items s.walked) s.taken s.last c.self.invariant.1 (rw (← c.self.view_is) at c.requires.out) in (
      rw (c.to.ensures, c.push_reserved.ensures.items) (added s.heads.items links _ (keys_of s.watches.items) _ c.args.key c.code-list.result c.len-watch.result c.index-next.result.now c.self.invariant.0 c.code-list.ensures.value (omega (arith, c.len-watch.ensures, links-length s.watches.items)) inside head (links-push s.watches.items watch) (keys-push s.watches.items watch)),
      idle _ _ s.taken s.last none,
      rw (c.push_reserved.ensures.items, keys-push s.watches.items watch, length-set s.heads.items c.code-list.result c.to.result) (listed-push (length s.heads.items) (keys_of s.watches.items) c.args.key inside room c.self.invariant.2),
    )

pub returns-clause-out : goal.returns-clause-out
returns-clause-out c =
    let s = c.self.inside in
    let links = links_of s.watches.items in
    let out : list_from links (length links) s.taken ≡ [] = rw (← c.self.view_is) at c.requires.out in
    let none : s.taken ≡ None = idle-out links (link_at s.heads.items s.walked) s.taken s.last c.self.invariant.1 out in
    rw (← c.self.view_is, none) (from-none _ _ ∙ sym (from-none _ _))
