use Rattle.std.proofs.Common.{◌≡◌, ◌≤◌, ◌+◌, ◌-◌, ◌↔◌, ℕ, [], length, take, get_or, true, false, vec_capacity, sym, ◌∙◌, arith}
use Rattle.std.specs.List.Sorted.{IsPermutation}
use Rattle.mal_base.specs.Literals.{negated}
use Rattle.spec_node.specs.Value.{is_true, is_false}
use Rattle.mal_watch.specs.WatchLists.{Has, IsAt}
use Rattle.mal_watch.specs.Going.{Turns, Goes}
use Rattle.mal_watch.specs.Finding.{found_in, pending}
use Rattle.mal_watch.specs.Following.{Follows}
use Rattle.mal_watch.proofs.TurnLemmas.{turns-is}
use Rattle.mal_watch.proofs.FoundLemmas.{out-length}
use Rattle.mal_watch.proofs.FollowLemmas.{before-walk, after-walk, no-walk, IsFound}
use Rattle.mal_watch.proofs.watcher.Watcher.find.Goals as goal
use Rattle.mal_watch.proofs.watcher.Watcher.find.Goals.{Then-is_false_before, Else-is_false_before, After-sort}

-- an entry whose literal was true before
skipped : (c : Then-is_false_before) → Follows c.args.self.now.store.clauses c.args.self.now.store.long c.args.self.now.lists.keys c.args.self.now.lists.out c.args.self.now.lists.count (vec_capacity c.args.self.now.found) c.args.trail.now.entries (c.args.count + 1) × ([] ≡ pending (take c.args.count c.args.trail.now.entries) c.args.trail.now.entries c.args.self.now.store.clauses)
skipped c =
    let s = c.args.self.now in
    let entries = c.args.trail.now.entries in
    let last = c.index-entries-count.result in
    let is : last ≡ get_or entries (c.args.count - 1) last = rw c.entries.ensures at c.index-entries-count.is in
    let was : is_false (take (c.args.count - 1) entries) (negated last.lit) ≡ true = rw (← c.negate-lit.ensures) (sym c.is_false_before.ensures ∙ c.if-is_false_before.true) in
    no-walk s.store.clauses s.store.long s.lists.keys s.lists.count _ entries c.args.count last s.lists.out c.requires.some c.requires.count is was c.requires.fits

pub returns-then-is_false_before-clause-found : goal.returns-then-is_false_before-clause-found
returns-then-is_false_before-clause-found c = rw c.clear.ensures.items (skipped c).1

pub returns-then-is_false_before-clause-fits : goal.returns-then-is_false_before-clause-fits
returns-then-is_false_before-clause-fits c = rw c.clear.ensures.capacity (skipped c).0

-- any other makes its literal's negation false
turns : (c : Else-is_false_before) → ((x : ℕ) → is_true c.args.trail.now.entries x ≡ true → is_false c.args.trail.now.entries x ≡ false) → Turns c.args.trail.now.entries c.args.count (negated c.index-entries-count.result.lit)
turns c clear =
    let entries = c.args.trail.now.entries in
    let last = c.index-entries-count.result in
    let is : last ≡ get_or entries (c.args.count - 1) last = rw c.entries.ensures at c.index-entries-count.is in
    let fresh : is_false (take (c.args.count - 1) entries) (negated last.lit) ≡ false = rw (← c.negate-lit.ensures) (sym c.is_false_before.ensures ∙ c.if-is_false_before.false) in
    turns-is entries c.args.count last c.requires.some c.requires.count is fresh clear

pub walk-requires-clause-turns : goal.walk-requires-clause-turns
walk-requires-clause-turns c = rw c.negate-lit.ensures (turns (goal.at.walk-requires-clause-turns c).Else-is_false_before c.is_consistent.ensures)

pub walk-requires-clause-goes : goal.walk-requires-clause-goes
walk-requires-clause-goes c =
    let s = c.args.self.now in
    let key = negated c.index-entries-count.result.lit in
    let watches : (k : ℕ) → Has c.take.new.self.out k ↔ IsAt s.lists.keys k key = rw (c.take.ensures.keys, c.negate-lit.ensures) at c.take.ensures.watches in
    let now = turns (goal.at.walk-requires-clause-goes c).Else-is_false_before c.is_consistent.ensures in
    rw (c.negate-lit.ensures, c.take.ensures.lists, c.take.ensures.keys) (before-walk s.store.clauses s.store.long s.lists.keys c.take.new.self.out s.lists.out s.lists.count _ c.args.trail.now.entries c.args.count key c.requires.fits now watches c.take.ensures.once)

pub walk-requires-clause-room : goal.walk-requires-clause-room
walk-requires-clause-room c =
    let s = c.args.self.now in
    let w = c.requires.fits in
    let watches : (k : ℕ) → Has c.take.new.self.out k ↔ IsAt s.lists.keys k c.negate-lit.result = rw c.take.ensures.keys at c.take.ensures.watches in
    let few : length c.take.new.self.out ≤ length s.store.long = out-length c.negate-lit.result s.lists.count s.store.long s.lists.keys c.take.new.self.out w.watching w.apart watches c.take.ensures.once in
    omega (arith, few, w.room, c.clear.ensures.len, c.clear.ensures.capacity)

-- what was found, and that the rest follows
walked : (c : After-sort) → Turns c.args.trail.now.entries c.args.count (negated c.index-entries-count.result.lit) → IsFound c.args.self.now.store.clauses c.args.self.now.store.long c.walk.new.lists.keys c.sort.new.found.items c.args.self.now.lists.count (vec_capacity c.args.self.now.found) c.args.trail.now.entries c.args.count
walked c now =
    let s = c.args.self.now in
    let entries = c.args.trail.now.entries in
    let key = negated c.index-entries-count.result.lit in
    let watches : (k : ℕ) → Has c.take.new.self.out k ↔ IsAt s.lists.keys k key = rw (c.take.ensures.keys, c.negate-lit.ensures) at c.take.ensures.watches in
    let goes : Goes entries c.args.count key s.lists.count s.store.long c.walk.new.lists.keys [] = rw (c.walk.ensures.lists, c.take.ensures.lists, c.negate-lit.ensures) at c.walk.ensures.goes in
    let moved : IsPermutation (found_in (take c.args.count entries) entries s.store.long c.take.new.self.out) c.sort.new.found.items = rw (c.walk.ensures.found, c.clear.ensures.items) at c.sort.ensures.same in
    after-walk s.store.clauses s.store.long s.lists.keys c.take.new.self.out s.lists.out c.walk.new.lists.keys c.sort.new.found.items s.lists.count _ entries c.args.count key c.requires.fits now watches c.take.ensures.once goes moved c.sort.ensures.order

pub returns-clause-found : goal.returns-clause-found
returns-clause-found c = (walked c (turns (goal.at.returns-clause-found c).Else-is_false_before c.is_consistent.ensures)).found_is

pub returns-clause-fits : goal.returns-clause-fits
returns-clause-fits c =
    let found = walked c (turns (goal.at.returns-clause-fits c).Else-is_false_before c.is_consistent.ensures) in
    let capacity : vec_capacity c.sort.new.found ≡ vec_capacity c.args.self.now.found = c.sort.ensures.capacity ∙ (c.walk.ensures.capacity ∙ c.clear.ensures.capacity) in
    rw (c.walk.ensures.out, c.walk.ensures.store, c.walk.ensures.lists, c.take.ensures.lists, capacity) found.follows
