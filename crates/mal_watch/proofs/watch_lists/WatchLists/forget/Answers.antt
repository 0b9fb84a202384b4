use Rattle.std.proofs.Common.{◌∙◌, length, ap, arith}
use Rattle.mal_watch.specs.Leaving.{pairs_left}
use Rattle.mal_watch.specs.Watches.{keys_of}
use Rattle.mal_watch.specs.WatchLists.{ListedWatches}
use Rattle.mal_watch.proofs.LinkedLemmas.{idle}
use Rattle.mal_watch.proofs.ListedLemmas.{listed-pairs, listed-more, keys-pairs}
use Rattle.mal_watch.proofs.watch_lists.WatchLists.forget.Goals as goal

pub link_all-requires-clause-listed : goal.link_all-requires-clause-listed
link_all-requires-clause-listed c =
    let s = c.self.inside in
    rw (c.keep_pairs.ensures.items, keys-pairs c.args.ids.now c.args.store.now.long s.watches.items) (listed-more (length s.heads.items) _ _ (omega (arith, c.fill.ensures.len)) (listed-pairs (length s.heads.items) c.args.ids.now c.args.store.now.long (keys_of s.watches.items) c.self.invariant.2))

pub invariant_of-self : goal.invariant_of-self
invariant_of-self c =
    let s = c.self.inside in
    (c.link_all.ensures.linked, idle _ _ _ s.last c.none-self-inside.ensures, rw (c.link_all.ensures.keys, c.keep_pairs.ensures.items, keys-pairs c.args.ids.now c.args.store.now.long s.watches.items) (listed-more (length s.heads.items) _ _ (omega (arith, c.fill.ensures.len, c.link_all.ensures.lists)) (listed-pairs (length s.heads.items) c.args.ids.now c.args.store.now.long (keys_of s.watches.items) c.self.invariant.2)))

pub returns-clause-keys : goal.returns-clause-keys
returns-clause-keys c =
    let s = c.self.inside in
    c.link_all.ensures.keys ∙ (ap keys_of c.keep_pairs.ensures.items ∙ (keys-pairs c.args.ids.now c.args.store.now.long s.watches.items ∙ ap (λ (v : ListedWatches). pairs_left c.args.ids.now c.args.store.now.long v.keys) c.self.view_is))
