use Rattle.std.proofs.Common.{◌-◌, ◌+◌, ◌≤◌, length, ◌∙◌, arith}
use Rattle.mal_store.specs.Arena.{listed_count}
use Rattle.mal_store.specs.Stored.{held_in, literal_count}
use Rattle.mal_store.proofs.HeldLemmas.{none-under, held-added}
use Rattle.mal_store.proofs.CountLemmas.{listed-fewer}
use Rattle.mal_store.proofs.ShortLemmas.{short-rise, short-added}
use Rattle.mal_store.proofs.StoreLemmas.{store-added, count-added}
use Rattle.mal_store.proofs.store.Store.add_reserved.Goals as goal

pub add_short-requires-clause-rising : goal.add_short-requires-clause-rising
add_short-requires-clause-rising c = rw c.self.invariant.short_is (short-rise (held_in c.self.inside.long.clauses c.self.inside.index.entries) c.self.invariant.rising)

pub hold-held-requires-clause-literal_room : goal.hold-held-requires-clause-literal_room
hold-held-requires-clause-literal_room c =
    let s = c.self.inside in
    let room : length c.args.lits.now ≤ listed_count s.long.clauses + s.long.literal_room - literal_count (held_in s.long.clauses s.index.entries) = rw (← c.self.view_is) at c.requires.literal_room in
    omega (arith, room, listed-fewer s.long.clauses (held_in s.long.clauses s.index.entries) c.self.invariant.once)

pub insert_reserved-requires-clause-new : goal.insert_reserved-requires-clause-new
insert_reserved-requires-clause-new c =
    let s = c.self.inside in
    none-under s.long.clauses c.args.id s.index.entries (rw (← c.self.view_is) at c.requires.new)

pub invariant_of-self : goal.invariant_of-self
invariant_of-self c =
    let s = c.self.inside in
    let h = c.hold-held in
    let room : length c.args.lits.now ≤ listed_count s.long.clauses + s.long.literal_room - literal_count (held_in s.long.clauses s.index.entries) = rw (← c.self.view_is) at c.requires.literal_room in
    let new = rw (← c.self.view_is) at c.requires.new in
    let shorts = c.add_short.ensures.items ∙ short-added (record { id = c.args.id; lits = c.args.lits.now }) (held_in s.long.clauses s.index.entries) s.short.items c.self.invariant.rising new c.self.invariant.short_is in
    rw c.insert_reserved.ensures.entries (store-added s.long.clauses h.new.long.clauses c.args.id h.result c.args.lits.now s.long.literal_room h.new.long.literal_room s.index.entries s.short.items c.add_short.new.short.items h.ensures.long h.ensures.lits h.ensures.placed room h.ensures.total new shorts c.self.invariant)

pub returns-clause-clauses : goal.returns-clause-clauses
returns-clause-clauses c =
    let s = c.self.inside in
    let h = c.hold-held in
    rw (c.insert_reserved.ensures.entries, ← c.self.view_is) (held-added s.long.clauses h.new.long.clauses c.args.id h.result c.args.lits.now s.index.entries h.ensures.long h.ensures.lits c.self.invariant.placed)

pub returns-clause-literal_room : goal.returns-clause-literal_room
returns-clause-literal_room c =
    let s = c.self.inside in
    let h = c.hold-held in
    let count = count-added s.long.clauses h.new.long.clauses c.args.id h.result c.args.lits.now s.long.literal_room s.index.entries s.short.items h.ensures.long h.ensures.lits c.self.invariant in
    rw (c.insert_reserved.ensures.entries, ← c.self.view_is) (omega (arith, count, h.ensures.total))
