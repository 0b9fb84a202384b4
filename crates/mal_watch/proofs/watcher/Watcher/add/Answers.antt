use Rattle.std.proofs.Common.{◌≡◌, ◌-◌, ◌≤◌, ◌+◌, length, arith}
use Rattle.mal_base.specs.NumberedClause.{NumberedClause}
use Rattle.mal_watch.proofs.HasLemmas.{rises-once}
use Rattle.mal_watch.proofs.FollowLemmas.{follows-short, follows-long, lists-within, with-short, with-behind}
use Rattle.mal_watch.proofs.watcher.Watcher.add.Goals as goal

pub returns-then-lits-lt2-clause-fits : goal.returns-then-lits-lt2-clause-fits
returns-then-lits-lt2-clause-fits c =
    let s = c.args.self.now in
    let clause : NumberedClause = record { id = c.args.id; lits = c.args.lits.now } in
    let short : length clause.lits ≤ 1 = omega (arith, c.if-lits-lt2.true) in
    rw (c.add_reserved.ensures.clauses, c.add_reserved.ensures.long, with-short clause s.store.long short) (follows-short s.store.clauses s.store.long s.lists.keys s.lists.out s.lists.count _ c.args.trail.now.entries c.args.trail.now.processed clause c.requires.new short c.requires.fits)

pub add-requires-clause-list : goal.add-requires-clause-list
add-requires-clause-list c = lists-within c.args.self.now.lists.count c.args.lits.now c.requires.room.within c.pick-first.result.0 c.pick-first.ensures.first_in

pub add-requires-2-clause-list : goal.add-requires-2-clause-list
add-requires-2-clause-list c = rw c.add.ensures.lists (lists-within c.args.self.now.lists.count c.args.lits.now c.requires.room.within c.pick-first.result.1 c.pick-first.ensures.second_in)

pub returns-clause-fits : goal.returns-clause-fits
returns-clause-fits c =
    let s = c.args.self.now in
    let handled : c.saturating_sub-handled.result ≡ c.args.trail.now.processed - 1 = omega (arith, c.saturating_sub-handled.ensures, c.processed.ensures.value) in
    let clause : NumberedClause = record { id = c.args.id; lits = c.args.lits.now } in
    let room : length s.store.long + 1 ≤ _ = omega (arith, c.requires.room.clauses) in
    rw (c.add-2.ensures.keys, c.add.ensures.keys, c.add-2.ensures.out, c.add.ensures.out, c.add-2.ensures.lists, c.add.ensures.lists, c.add_reserved.ensures.clauses, c.add_reserved.ensures.long, with-behind clause s.store.long (omega (arith, c.if-lits-lt2.false))) (follows-long s.store.clauses s.store.long s.lists.keys s.lists.out s.lists.count _ c.args.trail.now.entries c.args.trail.now.processed clause c.pick-first.result.0 c.pick-first.result.1 c.requires.new (rises-once c.args.lits.now c.requires.form) (rw handled at c.pick-first.ensures) (lists-within s.lists.count c.args.lits.now c.requires.room.within) room c.requires.fits)
