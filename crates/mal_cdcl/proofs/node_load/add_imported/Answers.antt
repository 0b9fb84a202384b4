use Rattle.std.proofs.Common.{arith}
use Rattle.mal_cdcl.proofs.TellingLemmas.{telling-begins, may-tell, telling-next}
use Rattle.mal_cdcl.proofs.node_load.add_imported.Goals as goal

pub loop-entry-init : goal.loop-entry-init
loop-entry-init g c = record { telling = telling-begins c.args.exported.now (g.E.ClauseView.clauses c.args.engine.now) (g.E.Engine.room c.args.engine.now) c.requires.new; fits = c.requires.fits }

pub learn-requires-clause-new : goal.learn-requires-clause-new
learn-requires-clause-new g c = rw c.id.ensures ((may-tell c.loop-entry.entry-index c.entry-item.result c.entry-item.result c.args.exported.now _ _ _ _ (omega arith) c.entry-item.is c.requires.clause_room c.requires.literal_room c.loop-entry.invariant.telling).new)

pub learn-requires-clause-form : goal.learn-requires-clause-form
learn-requires-clause-form g c = rw c.lits.ensures ((may-tell c.loop-entry.entry-index c.entry-item.result c.entry-item.result c.args.exported.now _ _ _ _ (omega arith) c.entry-item.is c.requires.clause_room c.requires.literal_room c.loop-entry.invariant.telling).form)

pub learn-requires-clause-room : goal.learn-requires-clause-room
learn-requires-clause-room g c = rw c.lits.ensures ((may-tell c.loop-entry.entry-index c.entry-item.result c.entry-item.result c.args.exported.now _ _ _ _ (omega arith) c.entry-item.is c.requires.clause_room c.requires.literal_room c.loop-entry.invariant.telling).room)

pub loop-entry-preserved : goal.loop-entry-preserved
loop-entry-preserved g c =
    record {
      telling = rw (c.learn.ensures.clauses, c.id.ensures, c.lits.ensures) (telling-next c.loop-entry.entry-index c.entry-item.result c.entry-item.result c.args.exported.now _ _ _ _ _ (omega arith) c.entry-item.is (rw c.lits.ensures at c.learn.ensures.room) c.loop-entry.invariant.telling);
      fits = c.learn.ensures.fits;
    }
