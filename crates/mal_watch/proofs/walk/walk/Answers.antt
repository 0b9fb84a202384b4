use Rattle.std.proofs.Common.{◌≡◌, ◌≤◌, ◌+◌, ◌++◌, List, ◌∷◌, length, take, drop, vec_len, vec_capacity, refl, sym, ap, ◌∙◌, append_assoc, append-nil, arith}
use Rattle.std.specs.Prelude.{option_to_list}
use Rattle.mal_watch.specs.declared.found.Found.{Found}
use Rattle.mal_watch.specs.Going.{Goes}
use Rattle.mal_watch.specs.Finding.{found_at, found_in}
use Rattle.mal_watch.proofs.TurnLemmas.{AreSpared, spared}
use Rattle.mal_watch.proofs.walk.walk.Goals as goal
use Rattle.mal_watch.proofs.walk.walk.Goals.{After-spare-in-Some, in-Some-visit, in-None}

pub loop-watch-init : goal.loop-watch-init
loop-watch-init c =
    let s = c.args.lists.now in
    let first = spared c.args.trail.now.entries c.args.count c.args.lit s.count c.args.store.now.long s.keys s.out c.requires.turns c.requires.goes in
    let few : length c.spare.new.self.out ≤ length s.out = rw c.spare.ensures.out first.fewer in
    record {
      goes = rw (c.spare.ensures.lists, c.spare.ensures.keys, c.spare.ensures.out) first.goes;
      found = rw c.spare.ensures.out (ap (λ (fs : List Found). c.args.found.now.items ++ fs) first.finds);
      room = omega (arith, few, c.requires.room);
      store = refl;
      lists = c.spare.ensures.lists;
      lists_room = c.spare.ensures.room;
      capacity = refl;
    }

-- what is left after a visit
left : (c : After-spare-in-Some) → AreSpared c.args.trail.now.entries c.args.count c.args.lit c.visit.new.lists.count c.args.store.now.long c.visit.new.lists.keys (drop 1 c.loop-watch.lists.out) c.spare-in-Some.new.self.out
left c =
    let goes : Goes c.args.trail.now.entries c.args.count c.args.lit c.visit.new.lists.count c.args.store.now.long c.visit.new.lists.keys (drop 1 c.loop-watch.lists.out) = rw c.loop-watch.invariant.store at c.visit.ensures.goes in
    rw (c.spare-in-Some.ensures.out, c.visit.ensures.out) (spared c.args.trail.now.entries c.args.count c.args.lit c.visit.new.lists.count c.args.store.now.long c.visit.new.lists.keys (drop 1 c.loop-watch.lists.out) c.requires.turns goes)

-- and what is found
pushed : (c : After-spare-in-Some) → (c.match-visit.found.items ≡ c.loop-watch.found.items ++ option_to_list c.visit.result) × (vec_len c.match-visit.found ≤ vec_len c.loop-watch.found + 1) × (vec_capacity c.match-visit.found ≡ vec_capacity c.loop-watch.found)
pushed c = elim c.match-visit.branch [
  | in-Some-visit w ↦ rw (w.found-is, w.in-Some-visit.is) (w.push_reserved.ensures.items, omega (arith, w.push_reserved.ensures.len), w.push_reserved.ensures.capacity)
  | in-None w ↦ rw (w.found-is, w.in-None.is) (sym (append-nil _), omega arith, refl)
]

pub loop-watch-smaller : goal.loop-watch-smaller
loop-watch-smaller c =
    let few = (left (goal.at.loop-watch-smaller c).After-spare-in-Some).fewer in
    let one : length c.loop-watch.lists.out ≡ length (c.in-Some.watch ∷ drop 1 c.loop-watch.lists.out) = ap (λ xs. length xs) c.in-Some.ensures.0 in
    omega (arith, few, one)

pub loop-watch-preserved : goal.loop-watch-preserved
loop-watch-preserved c =
    let here = (goal.at.loop-watch-preserved c).After-spare-in-Some in
    let inv = c.loop-watch.invariant in
    let es = c.args.trail.now.entries in
    let prefix = take c.args.count es in
    let watched = c.args.store.now.long in
    let out = c.loop-watch.lists.out in
    let rest = found_in prefix es watched (drop 1 out) in
    let next = left here in
    let push = pushed here in
    let one : length out ≡ length (c.in-Some.watch ∷ drop 1 out) = ap (λ xs. length xs) c.in-Some.ensures.0 in
    let found : option_to_list c.visit.result ≡ found_at prefix es watched c.in-Some.watch = rw inv.store at c.visit.ensures.found in
    let all : found_in prefix es watched out ≡ option_to_list c.visit.result ++ rest = ap (λ ks. found_in prefix es watched ks) c.in-Some.ensures.0 ∙ ap (λ (fs : List Found). fs ++ rest) (sym found) in
    let now : c.match-visit.found.items ++ rest ≡ c.loop-watch.found.items ++ found_in prefix es watched out = ap (λ (fs : List Found). fs ++ rest) push.0 ∙ (append_assoc c.loop-watch.found.items (option_to_list c.visit.result) rest ∙ ap (λ (fs : List Found). c.loop-watch.found.items ++ fs) (sym all)) in
    record {
      goes = rw (c.spare-in-Some.ensures.lists, c.spare-in-Some.ensures.keys) next.goes;
      found = ap (λ (fs : List Found). c.match-visit.found.items ++ fs) next.finds ∙ (now ∙ inv.found);
      room = omega (arith, push.1, push.2, next.fewer, one, inv.room);
      store = c.visit.ensures.store ∙ inv.store;
      lists = c.spare-in-Some.ensures.lists ∙ (c.visit.ensures.lists ∙ inv.lists);
      lists_room = c.spare-in-Some.ensures.room ∙ (c.visit.ensures.lists_room ∙ inv.lists_room);
      capacity = push.2 ∙ inv.capacity;
    }
