use Rattle.std.proofs.Common.{ap, length, arith}
use Rattle.mal_check.specs.declared.held.Place.TheVariants.{Added}
use Rattle.mal_check.proofs.PlaceLemmas.{have-added, held-added, puts-at, short-added}
use Rattle.mal_check.proofs.held.Clauses.add.Goals as goal

pub invariant_of-self-2 : goal.invariant_of-self-2
invariant_of-self-2 c =
    let low = rw (← c.self.view_is) at c.bound-bound.ensures in
    rw (c.push_reserved.ensures.items, c.reserve.ensures.items) (have-added c.self.inside.originals.items c.self.inside.added.items c.args.clause c.self.inside.ids c.put.new.self c.args.id c.self.invariant.0 (puts-at c.self.inside.ids c.put.new.self c.args.id (Added c.len.result) (Added (length c.self.inside.added.items)) (ap Added (omega arith)) c.in_ok-put.ensures.ok), short-added c.self.inside.originals.items c.self.inside.added.items c.args.clause c.self.inside.ids c.put.new.self c.bound-bound.result c.self.invariant.1 low c.put.ensures.room)

pub returns-clause-held : goal.returns-clause-held
returns-clause-held c = rw (← c.self.view_is, c.push_reserved.ensures.items, c.reserve.ensures.items) (held-added c.self.inside.originals.items c.self.inside.added.items c.args.clause c.self.inside.ids c.put.new.self c.args.id c.self.invariant.0 (puts-at c.self.inside.ids c.put.new.self c.args.id (Added c.len.result) (Added (length c.self.inside.added.items)) (ap Added (omega arith)) c.in_ok-put.ensures.ok))
