use Rattle.std.proofs.Common.{◌≡◌, ◌∙◌, ◌<◌, length, None, refl, arith}
use Rattle.std.proofs.lemmas.List.{get_or_read}
use Rattle.mal_watch.specs.declared.watch_lists.Watch.{Watch}
use Rattle.mal_watch.specs.WatchLists.{link_at}
use Rattle.mal_watch.proofs.ListedLemmas.{none-linked, watch-listed, keys-kept, link-more}
use Rattle.mal_watch.proofs.watch_lists.link_all.Goals as goal

pub loop-place-init : goal.loop-place-init
loop-place-init c = record { linked = rw c.requires.empty (none-linked _); keys = refl; watches = refl; lists = refl; capacity = refl }

pub index-next-requires : goal.index-next-requires
index-next-requires c =
    let s = c.loop-place in
    let listed = watch-listed _ s.watches.items c.args.watches.now.items s.place c.index.result.now s.invariant.keys c.requires.listed (omega arith) c.index.ensures in
    omega (arith, listed.0, c.code-list.ensures.value, s.invariant.lists)

pub index_mut-requires-in-loop-place : goal.index_mut-requires-in-loop-place
index_mut-requires-in-loop-place c =
    let s = c.loop-place in
    let listed = watch-listed _ s.watches.items c.args.watches.now.items s.place c.index.result.now s.invariant.keys c.requires.listed (omega arith) c.index.ensures in
    omega (arith, listed.0, c.code-list.ensures.value, s.invariant.lists)

pub loop-place-preserved : goal.loop-place-preserved
loop-place-preserved c =
    let s = c.loop-place in
    let listed = watch-listed _ s.watches.items c.args.watches.now.items s.place c.index.result.now s.invariant.keys c.requires.listed (omega arith) c.index.ensures in
    let watch : Watch = record { next = c.index-next.result.now; key = c.index.result.now.key } in
    let inside : c.index.result.now.key < length s.heads.items = omega (arith, listed.0, s.invariant.lists) in
    let head : c.index-next.result.now ≡ link_at s.heads.items c.code-list.result = get_or_read s.heads.items c.code-list.result c.index-next.result.now (omega (arith, inside, c.code-list.ensures.value)) c.index-next.ensures None in
    record {
      linked = rw c.to.ensures (link-more s.heads.items s.watches.items s.place c.code-list.result watch (omega arith) c.code-list.ensures.value inside head s.invariant.linked);
      keys = keys-kept s.watches.items s.place c.index.result.now watch (omega arith) c.index.ensures refl ∙ s.invariant.keys;
      watches = s.invariant.watches;
      lists = s.invariant.lists;
      capacity = s.invariant.capacity;
    }
