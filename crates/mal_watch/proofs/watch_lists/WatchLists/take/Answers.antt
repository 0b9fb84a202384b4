use Rattle.std.proofs.Common.{◌≡◌, ◌<◌, length, [], None, arith}
use Rattle.std.proofs.lemmas.List.{get_or_read}
use Rattle.mal_watch.specs.WatchLists.{link_at, list_from}
use Rattle.mal_watch.specs.Watches.{links_of, keys_of}
use Rattle.mal_watch.proofs.LinkedLemmas.{IsTaken, took, took-none}
use Rattle.mal_watch.proofs.watch_lists.WatchLists.take.Goals as goal
use Rattle.mal_watch.proofs.watch_lists.WatchLists.take.Goals.{After-index}

-- the list of a literal is walked
out : (c : After-index) → IsTaken (links_of c.self.inside.watches.items) (keys_of c.self.inside.watches.items) c.args.key c.index.result.now
out c =
    let s = c.self.inside in
    let inside : c.code-list.result < length s.heads.items = omega (arith, c.if-list-len.true, c.len.ensures) in
    let head : c.index.result.now ≡ link_at s.heads.items c.code-list.result = get_or_read s.heads.items c.code-list.result c.index.result.now inside c.index.ensures None in
    took s.heads.items (links_of s.watches.items) (keys_of s.watches.items) c.args.key c.code-list.result c.index.result.now c.self.invariant.0 c.code-list.ensures.value head

pub invariant_of-self : goal.invariant_of-self
invariant_of-self c =
    let s = c.self.inside in
    let inside : c.code-list.result < length s.heads.items = omega (arith, c.if-list-len.true, c.len.ensures) in
    let head : c.index.result.now ≡ link_at s.heads.items c.code-list.result = get_or_read s.heads.items c.code-list.result c.index.result.now inside c.index.ensures None in
    (c.self.invariant.0, rw (← head) ((out (goal.at.invariant_of-self c).After-index).walk c.none-self-inside.result c.none-self-inside.ensures), c.self.invariant.2)

pub returns-then-list-len-clause-watches : goal.returns-then-list-len-clause-watches
returns-then-list-len-clause-watches c = (out (goal.at.returns-then-list-len-clause-watches c).After-index).watches

pub returns-then-list-len-clause-once : goal.returns-then-list-len-clause-once
returns-then-list-len-clause-once c = (out (goal.at.returns-then-list-len-clause-once c).After-index).once

pub returns-else-list-len-clause-watches : goal.returns-else-list-len-clause-watches
returns-else-list-len-clause-watches c =
    let s = c.self.inside in
    let none : list_from (links_of s.watches.items) (length (links_of s.watches.items)) s.taken ≡ [] = rw (← c.self.view_is) at c.requires in
    rw (← c.self.view_is) (took-none s.heads.items (links_of s.watches.items) (keys_of s.watches.items) c.args.key _ c.self.invariant.0 (omega (arith, c.if-list-len.false, c.len.ensures, c.code-list.ensures.value)) none)
