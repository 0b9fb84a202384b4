use Rattle.std.proofs.Common.{◌≡◌, ℕ, ◌<◌, List, length, drop, set, get_or, ◌∷◌, Option, Some, None, refl, sym, ap, ◌∙◌, arith}
use Rattle.std.proofs.lemmas.List.{get_or_read, length-set, set-get_or}
use Rattle.mal_watch.specs.declared.watch_lists.Watch.{Watch}
use Rattle.mal_watch.specs.WatchLists.{link_at, list_from}
use Rattle.mal_watch.specs.Watches.{links_of, keys_of}
use Rattle.mal_watch.proofs.LinkedLemmas.{IsFirst, first-is, last-below, IsPut, stayed, moved, heads_past, links_past, heads-past-length}
use Rattle.mal_watch.proofs.ListedLemmas.{listed-set, keys-kept}
use Rattle.mal_watch.proofs.WatchLemmas.{keys-length, links-length, links-set, keys-set, link-at}
use Rattle.mal_watch.proofs.watch_lists.WatchLists.put.Goals as goal
use Rattle.mal_watch.proofs.watch_lists.WatchLists.put.Goals.{After-index, After-index-next, in-Some, in-None}

-- the first that is out, and the rest
abbrev rest : After-index → List ℕ
rest c = drop 1 (list_from (links_of c.self.inside.watches.items) (length (links_of c.self.inside.watches.items)) c.self.inside.taken)

outs : (c : After-index) → list_from (links_of c.self.inside.watches.items) (length (links_of c.self.inside.watches.items)) c.self.inside.taken ≡ c.args.watch ∷ rest c
outs c = rw (← c.self.view_is) at c.requires.first

is_first : (c : After-index) → IsFirst c.self.inside.heads.items (links_of c.self.inside.watches.items) (keys_of c.self.inside.watches.items) c.self.inside.walked c.args.watch c.self.inside.taken c.self.inside.last c.self.invariant.0 c.self.invariant.1 (rest c)
is_first c =
    let s = c.self.inside in
    first-is s.heads.items (links_of s.watches.items) (keys_of s.watches.items) s.walked c.args.watch s.taken s.last (rest c) c.self.invariant.0 c.self.invariant.1 (outs c)

next_is : (c : After-index) → c.index.result.now.next ≡ link_at (links_of c.self.inside.watches.items) c.args.watch
next_is c = link-at c.self.inside.watches.items c.args.watch c.index.result.now (omega (arith, (is_first c).below, links-length c.self.inside.watches.items)) c.index.ensures

-- the watch stays in its list
stays : (c : After-index) → IsPut c.self.inside.heads.items (links_of c.self.inside.watches.items) (keys_of c.self.inside.watches.items) c.self.inside.walked c.index.result.now.next c.self.inside.taken (rest c)
stays c =
    let s = c.self.inside in
    stayed s.heads.items (links_of s.watches.items) (keys_of s.watches.items) s.walked c.args.watch s.taken s.last c.index.result.now.next (rest c) c.self.invariant.0 c.self.invariant.1 (outs c) (next_is c)

pub invariant_of-self : goal.invariant_of-self
invariant_of-self c = let s = stays (goal.at.invariant_of-self c).After-index in (s.linked, s.walk, c.self.invariant.2)

pub returns-then-list-self-clause-keys : goal.returns-then-list-self-clause-keys
returns-then-list-self-clause-keys c =
    let keys = keys_of c.self.inside.watches.items in
    let first = is_first (goal.at.returns-then-list-self-clause-keys c).After-index in
    let same : get_or keys c.args.watch 0 ≡ c.args.key = omega (arith, first.home, c.if-list-self.true, c.code-list.ensures.value) in
    rw (← c.self.view_is) (sym (ap (λ (k : ℕ). set keys c.args.watch k) (sym same) ∙ set-get_or keys c.args.watch 0))

pub returns-then-list-self-clause-out : goal.returns-then-list-self-clause-out
returns-then-list-self-clause-out c = rw (← c.self.view_is) ((stays (goal.at.returns-then-list-self-clause-out c).After-index).out_is)

pub index_mut-requires : goal.index_mut-requires
index_mut-requires c =
    let s = c.self.inside in
    let below : c.in-Some.last < length (links_of s.watches.items) = last-below s.heads.items (links_of s.watches.items) (keys_of s.watches.items) s.walked c.args.watch s.taken s.last _ c.in-Some.last c.self.invariant.0 c.self.invariant.1 (rw (← c.self.view_is) at c.requires.first) (sym c.watch.ensures ∙ c.in-Some.is) in
    omega (arith, below, links-length s.watches.items)

-- the links lead past the watch
record IsPassed (heads now links nexts : List (Option ℕ)) (keys same : List ℕ) (walked walks : ℕ) (last lasts next taken : Option ℕ) : Type 0 where
  heads_is : now ≡ heads_past heads walked last next
  links_is : nexts ≡ links_past links last next
  keys_is : same ≡ keys
  walked_is : walks ≡ walked
  last_is : lasts ≡ last
  taken_is : taken ≡ next

passed : (c : After-index-next) → IsPassed c.self.inside.heads.items c.match-watch.self-inside.heads.items (links_of c.self.inside.watches.items) (links_of c.match-watch.self-inside.watches.items) (keys_of c.self.inside.watches.items) (keys_of c.match-watch.self-inside.watches.items) c.self.inside.walked c.match-watch.self-inside.walked c.self.inside.last c.match-watch.self-inside.last c.index.result.now.next c.match-watch.self-inside.taken
passed c =
    let s = c.self.inside in
    elim c.match-watch.branch [
      | in-Some w ↦
          let last : s.last ≡ Some w.in-Some.last = sym c.watch.ensures ∙ w.in-Some.is in
          let was : Watch = w.index_mut.result.now in
          let now : Watch = record { next = c.index.result.now.next; key = was.key } in
          let below : w.in-Some.last < length (links_of s.watches.items) = last-below s.heads.items (links_of s.watches.items) (keys_of s.watches.items) s.walked c.args.watch s.taken s.last _ w.in-Some.last c.self.invariant.0 c.self.invariant.1 (rw (← c.self.view_is) at c.requires.first) last in
          let keys : keys_of (set s.watches.items w.in-Some.last now) ≡ keys_of s.watches.items = keys-kept s.watches.items w.in-Some.last was now (omega (arith, below, links-length s.watches.items)) w.index_mut.ensures.value refl in
          rw (w.self-inside-is, last) (record { heads_is = refl; links_is = links-set s.watches.items w.in-Some.last now; keys_is = keys; walked_is = refl; last_is = refl; taken_is = refl })
      | in-None w ↦
          let last : s.last ≡ None = sym c.watch.ensures ∙ w.in-None.is in
          rw (w.self-inside-is, last) (record { heads_is = refl; links_is = refl; keys_is = refl; walked_is = refl; last_is = refl; taken_is = refl })
    ]

-- the watch goes to another list
moves : (c : After-index-next) → IsPut (set (heads_past c.self.inside.heads.items c.self.inside.walked c.self.inside.last c.index.result.now.next) c.args.key (Some c.args.watch)) (set (links_past (links_of c.self.inside.watches.items) c.self.inside.last c.index.result.now.next) c.args.watch c.index-next.result.now) (set (keys_of c.self.inside.watches.items) c.args.watch c.args.key) c.self.inside.walked c.index.result.now.next c.self.inside.last (drop 1 (list_from (links_of c.self.inside.watches.items) (length (links_of c.self.inside.watches.items)) c.self.inside.taken))
moves c =
    let s = c.self.inside in
    let links = links_of s.watches.items in
    let keys = keys_of s.watches.items in
    let out = drop 1 (list_from links (length links) s.taken) in
    let outs : list_from links (length links) s.taken ≡ c.args.watch ∷ out = rw (← c.self.view_is) at c.requires.first in
    let first = first-is s.heads.items links keys s.walked c.args.watch s.taken s.last out c.self.invariant.0 c.self.invariant.1 outs in
    let next : c.index.result.now.next ≡ link_at links c.args.watch = link-at s.watches.items c.args.watch c.index.result.now (omega (arith, first.below, links-length s.watches.items)) c.index.ensures in
    let inside : c.args.key < length s.heads.items = rw (← c.self.view_is) at c.requires.list in
    let home : get_or keys c.args.watch 0 < length s.heads.items = c.self.invariant.2.below c.args.watch 0 (omega (arith, first.below, links-length s.watches.items, keys-length s.watches.items)) in
    let walked : s.walked < length s.heads.items = omega (arith, first.home, home) in
    let heads : c.match-watch.self-inside.heads.items ≡ heads_past s.heads.items s.walked s.last c.index.result.now.next = (passed c).heads_is in
    let there : c.code-list.result < length c.match-watch.self-inside.heads.items = omega (arith, inside, c.code-list.ensures.value, rw (← heads) at (heads-past-length s.heads.items s.walked s.last c.index.result.now.next)) in
    let head : c.index-next.result.now ≡ link_at (heads_past s.heads.items s.walked s.last c.index.result.now.next) c.args.key = rw (heads, c.code-list.ensures.value) at (get_or_read c.match-watch.self-inside.heads.items c.code-list.result c.index-next.result.now there c.index-next.ensures None) in
    moved s.heads.items links keys s.walked c.args.watch c.args.key s.taken s.last c.index.result.now.next c.index-next.result.now out c.self.invariant.0 c.self.invariant.1 outs next (λ e. c.if-list-self.false (c.code-list.ensures.value ∙ e)) inside walked head

pub invariant_of-self-2 : goal.invariant_of-self-2
invariant_of-self-2 c =
    let s = c.self.inside in
    let now : Watch = record { next = c.index-next.result.now; key = c.args.key } in
    let here = (goal.at.invariant_of-self-2 c).After-index-next in
    let p = passed here in
    let m = moves here in
    let links = links_of s.watches.items in
    let keys = keys_of s.watches.items in
    let first = first-is s.heads.items links keys s.walked c.args.watch s.taken s.last _ c.self.invariant.0 c.self.invariant.1 (rw (← c.self.view_is) at c.requires.first) in
    let inside : c.args.key < length s.heads.items = rw (← c.self.view_is) at c.requires.list in
    let listed = listed-set (length s.heads.items) keys c.args.watch c.args.key inside c.self.invariant.2 in
    let heads = heads-past-length s.heads.items s.walked s.last c.index.result.now.next in
    rw (links-set c.match-watch.self-inside.watches.items c.args.watch now, keys-set c.match-watch.self-inside.watches.items c.args.watch now, p.links_is, p.keys_is, p.heads_is, p.walked_is, p.last_is, p.taken_is, first.is, c.code-list.ensures.value) (m.linked, m.walk, rw (length-set (heads_past s.heads.items s.walked s.last c.index.result.now.next) c.args.key (Some c.args.watch), heads) listed)

pub returns-clause-keys : goal.returns-clause-keys
returns-clause-keys c =
    let now : Watch = record { next = c.index-next.result.now; key = c.args.key } in
    rw (← c.self.view_is, keys-set c.match-watch.self-inside.watches.items c.args.watch now) (ap (λ (ks : List ℕ). set ks c.args.watch c.args.key) (passed (goal.at.returns-clause-keys c).After-index-next).keys_is)

pub returns-clause-out : goal.returns-clause-out
returns-clause-out c =
    let now : Watch = record { next = c.index-next.result.now; key = c.args.key } in
    let here = (goal.at.returns-clause-out c).After-index-next in
    let p = passed here in
    rw (← c.self.view_is, links-set c.match-watch.self-inside.watches.items c.args.watch now, p.links_is, p.taken_is) (moves here).out_is
