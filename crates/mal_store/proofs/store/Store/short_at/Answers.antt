use Rattle.std.proofs.Common.{◌≡◌, ◌<◌}
use Rattle.mal_store.specs.Stored.{held_in}
use Rattle.mal_store.proofs.ShortLemmas.{short-at, next-is, next-none}
use Rattle.mal_store.proofs.store.Store.short_at.Goals as goal

pub returns-in-Some : goal.returns-in-Some
returns-in-Some c =
    let s = c.self.inside in
    let next = short-at (held_in s.long.clauses s.index.entries) _ c.args.place c.index-id.result.now c.self.invariant.rising c.self.invariant.short_is (rw (← c.self.view_is) at c.requires) c.index-id.ensures in
    rw (← c.self.view_is) (next-is (held_in s.long.clauses s.index.entries) c.args.place c.index-id.result.now c.in-Some.lits.now next (rw (← c.self.view_is) at c.in-Some.ensures))

pub returns-in-None : goal.returns-in-None
returns-in-None c =
    let s = c.self.inside in
    let next = short-at (held_in s.long.clauses s.index.entries) _ c.args.place c.index-id.result.now c.self.invariant.rising c.self.invariant.short_is (rw (← c.self.view_is) at c.requires) c.index-id.ensures in
    absurd (next-none (held_in s.long.clauses s.index.entries) c.args.place c.index-id.result.now next (rw (← c.self.view_is) at c.in-None.ensures))
