use Rattle.std.proofs.Common.{◌∙◌, sym, ap, arith}
use Rattle.mal_store.specs.Stored.{held_in, literal_count}
use Rattle.mal_store.proofs.CountLemmas.{count-fewer}
use Rattle.mal_store.proofs.ForgetLemmas.{forgetting-order}
use Rattle.mal_store.proofs.StoreLemmas.{store-fewer, held-fewer}
use Rattle.mal_store.proofs.store.Store.forget.Goals as goal

pub invariant_of-self : goal.invariant_of-self
invariant_of-self c =
    let s = c.self.inside in
    let won = rw c.forget.ensures.clauses at c.forget.ensures.won in
    rw (c.renumber.ensures.entries, c.forget-2.ensures.entries, c.forget.ensures.clauses) (store-fewer c.sort_ids.new.ids s.long.clauses s.long.literal_room c.forget.new.self.literal_room s.index.entries s.short.items c.take_ids_away.new.list.items c.forget-2.ensures.rising won c.take_ids_away.ensures.items c.self.invariant)

pub returns-clause-clauses : goal.returns-clause-clauses
returns-clause-clauses c =
    let s = c.self.inside in
    let now = held-fewer c.sort_ids.new.ids s.long.clauses s.long.literal_room s.index.entries s.short.items c.forget-2.ensures.rising c.self.invariant in
    rw (c.renumber.ensures.entries, c.forget-2.ensures.entries, c.forget.ensures.clauses, ← c.self.view_is) (now ∙ sym (forgetting-order c.args.ids.now c.sort_ids.new.ids c.sort_ids.ensures.same (held_in s.long.clauses s.index.entries)))

pub returns-clause-long : goal.returns-clause-long
returns-clause-long c =
    let s = c.self.inside in
    rw (← c.self.view_is) (c.forget.ensures.clauses ∙ sym (forgetting-order c.args.ids.now c.sort_ids.new.ids c.sort_ids.ensures.same s.long.clauses))

pub returns-clause-literal_room : goal.returns-clause-literal_room
returns-clause-literal_room c =
    let s = c.self.inside in
    let now = held-fewer c.sort_ids.new.ids s.long.clauses s.long.literal_room s.index.entries s.short.items c.forget-2.ensures.rising c.self.invariant in
    let won = rw c.forget.ensures.clauses at c.forget.ensures.won in
    rw (c.renumber.ensures.entries, c.forget-2.ensures.entries, c.forget.ensures.clauses, ← c.self.view_is) (omega (arith, ap literal_count now, won, count-fewer c.sort_ids.new.ids (held_in s.long.clauses s.index.entries)))
