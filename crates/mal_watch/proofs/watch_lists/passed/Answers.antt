use Rattle.std.proofs.Common.{◌≡◌, ℕ, ◌<◌, true, false, length, take, get_or, ◌∷◌, refl, sym, ap, ◌∙◌, arith}
use Rattle.std.specs.Prelude.{slice_index_or}
use Rattle.spec_node.specs.Value.{is_true}
use Rattle.mal_watch.specs.declared.watch_lists.Watch.{Watch}
use Rattle.mal_watch.specs.WatchLists.{link_at, list_from}
use Rattle.mal_watch.specs.Watches.{links_of, keys_of}
use Rattle.mal_watch.specs.Watching.{other_key, from_open}
use Rattle.mal_watch.proofs.LinkedLemmas.{IsNext, next-from, walk-on}
use Rattle.mal_watch.proofs.WatchLemmas.{links-length, link-at, key-at}
use Rattle.mal_watch.proofs.watch_lists.passed.Goals as goal
use Rattle.mal_watch.proofs.watch_lists.passed.Goals.{After-is_true_before, After-index-watches-watch}

-- the first watch, and whether the other watched literal of its clause is true
next : (c : After-is_true_before) → IsNext (links_of c.args.watches.now) c.loop-watch.taken c.in-Some.watch
next c = next-from (links_of c.args.watches.now) c.loop-watch.taken c.in-Some.watch (sym c.watch.ensures ∙ c.in-Some.is) c.loop-watch.invariant.list

truth : (c : After-is_true_before) → c.is_true_before.result ≡ is_true (take c.args.count c.args.trail.now.entries) (other_key (keys_of c.args.watches.now) c.in-Some.watch)
truth c =
    let watches = c.args.watches.now in
    let below : c.partner.result < length watches = rw c.partner.ensures (c.requires.paired c.in-Some.watch (omega (arith, (next c).below, links-length watches))) in
    let same : (slice_index_or watches c.partner.result c.index-watches-partner.result).key ≡ other_key (keys_of watches) c.in-Some.watch = ap (λ (n : Watch). n.key) (sym c.index-watches-partner.is) ∙ (key-at watches c.partner.result c.index-watches-partner.result below c.index-watches-partner.is ∙ ap (λ (k : ℕ). get_or (keys_of watches) k 0) c.partner.ensures) in
    c.is_true_before.ensures ∙ ap (λ (l : ℕ). is_true (take c.args.count c.args.trail.now.entries) l) same

pub returns-then-not-is_true_before-clause-rest : goal.returns-then-not-is_true_before-clause-rest
returns-then-not-is_true_before-clause-rest c =
    let here = (goal.at.returns-then-not-is_true_before-clause-rest c).After-is_true_before in
    let links = links_of c.args.watches.now in
    let prefix = take c.args.count c.args.trail.now.entries in
    let keys = keys_of c.args.watches.now in
    let test : is_true prefix (other_key keys c.in-Some.watch) ≡ false = sym (truth here) ∙ c.if-not-is_true_before.true in
    let stays : from_open prefix keys (list_from links (length links) c.loop-watch.taken) ≡ list_from links (length links) c.loop-watch.taken = rw ((next here).list, test) refl in
    sym stays ∙ c.loop-watch.invariant.rest

next_is : (c : After-index-watches-watch) → IsNext (links_of c.args.watches.now) c.loop-watch.taken c.in-Some.watch → (slice_index_or c.args.watches.now c.in-Some.watch c.index-watches-watch.result).next ≡ link_at (links_of c.args.watches.now) c.in-Some.watch
next_is c f =
    let watches = c.args.watches.now in
    ap (λ (n : Watch). n.next) (sym c.index-watches-watch.is) ∙ link-at watches c.in-Some.watch c.index-watches-watch.result (omega (arith, f.below, links-length watches)) c.index-watches-watch.is

pub loop-watch-smaller : goal.loop-watch-smaller
loop-watch-smaller c =
    let links = links_of c.args.watches.now in
    let f = next (goal.at.loop-watch-smaller c).After-is_true_before in
    let to = next_is (goal.at.loop-watch-smaller c).After-index-watches-watch f in
    let one : length (list_from links (length links) c.loop-watch.taken) ≡ length (c.in-Some.watch ∷ list_from links (length links) (link_at links c.in-Some.watch)) = ap (λ xs. length xs) f.list in
    let two = ap (λ o. length (list_from links (length links) o)) to in
    omega (arith, one, two)

pub loop-watch-preserved : goal.loop-watch-preserved
loop-watch-preserved c =
    let here = (goal.at.loop-watch-preserved c).After-is_true_before in
    let links = links_of c.args.watches.now in
    let prefix = take c.args.count c.args.trail.now.entries in
    let keys = keys_of c.args.watches.now in
    let inv = c.loop-watch.invariant in
    let f = next here in
    let to = next_is (goal.at.loop-watch-preserved c).After-index-watches-watch f in
    let test : is_true prefix (other_key keys c.in-Some.watch) ≡ true = sym (truth here) ∙ c.if-not-is_true_before.false in
    let passes : from_open prefix keys (list_from links (length links) c.loop-watch.taken) ≡ from_open prefix keys (list_from links (length links) (link_at links c.in-Some.watch)) = rw (f.list, test) refl in
    record {
      list = rw to f.rest;
      rest = rw to (sym passes ∙ inv.rest);
      walk = λ head w. walk-on links head c.loop-watch.taken c.loop-watch.last _ c.in-Some.watch (sym c.watch.ensures ∙ c.in-Some.is) to (inv.walk head w);
    }
