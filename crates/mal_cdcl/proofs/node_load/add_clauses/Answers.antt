use Rattle.std.proofs.Common.{None, sym, arith}
use Rattle.std.proofs.lemmas.Option.{get_or_from_slice_get}
use Rattle.mal_cdcl.proofs.OriginalLemmas.{adding-begins, adding-none, adding-some, adding-ends, may-add}
use Rattle.mal_cdcl.proofs.node_load.add_clauses.Goals as goal
use Rattle.mal_cdcl.proofs.node_load.add_clauses.Goals.{in-None, in-Some}

pub loop-place-init : goal.loop-place-init
loop-place-init g c =
    record {
      adding = adding-begins c.args.first c.args.clauses.now (g.E.ClauseView.clauses c.args.engine.now) (g.E.Engine.room c.args.engine.now) c.requires.above c.requires.rising c.requires.within;
      fits = c.requires.fits;
    }

pub load-requires-clause-new : goal.load-requires-clause-new
load-requires-clause-new g c =
    let found = sym (get_or_from_slice_get c.args.clauses.now c.loop-place.place _ None (rw c.in-Some.is at c.at.ensures.value)) in
    rw c.original-id.ensures ((may-add c.args.first c.loop-place.place c.args.clauses.now _ _ _ _ c.in-Some.lits.now None c.requires.bound c.requires.clause_room c.requires.literal_room (omega arith) found c.loop-place.invariant.adding).new)

pub load-requires-clause-room : goal.load-requires-clause-room
load-requires-clause-room g c =
    let found = sym (get_or_from_slice_get c.args.clauses.now c.loop-place.place _ None (rw c.in-Some.is at c.at.ensures.value)) in
    (may-add c.args.first c.loop-place.place c.args.clauses.now _ _ _ _ c.in-Some.lits.now None c.requires.bound c.requires.clause_room c.requires.literal_room (omega arith) found c.loop-place.invariant.adding).room

pub loop-place-preserved : goal.loop-place-preserved
loop-place-preserved g c =
    elim c.match-at.branch [
      | in-None w ↦
          rw w.engine-is (record {
            adding = adding-none c.args.first c.loop-place.place c.args.clauses.now _ _ _ _ None (omega arith) (sym (get_or_from_slice_get c.args.clauses.now c.loop-place.place _ None (rw w.in-None.is at c.at.ensures.value))) c.loop-place.invariant.adding;
            fits = c.loop-place.invariant.fits;
          })
      | in-Some w ↦
          rw (w.engine-is, w.load.ensures.clauses, w.original-id.ensures) (record {
            adding = adding-some c.args.first c.loop-place.place c.args.clauses.now _ _ _ _ _ w.in-Some.lits.now None c.requires.some c.requires.bound (omega arith) (sym (get_or_from_slice_get c.args.clauses.now c.loop-place.place _ None (rw w.in-Some.is at c.at.ensures.value))) w.load.ensures.room c.loop-place.invariant.adding;
            fits = w.load.ensures.fits;
          })
    ]

pub returns-clause-clauses : goal.returns-clause-clauses
returns-clause-clauses g c =
    (adding-ends c.args.first c.loop-place.place c.args.clauses.now _ _ _ _ c.requires.some c.requires.bound c.requires.above c.requires.rising (omega arith) c.loop-place.invariant.adding).clauses

pub returns-clause-room : goal.returns-clause-room
returns-clause-room g c =
    (adding-ends c.args.first c.loop-place.place c.args.clauses.now _ _ _ _ c.requires.some c.requires.bound c.requires.above c.requires.rising (omega arith) c.loop-place.invariant.adding).room
