use Rattle.std.proofs.Common.{◌≡◌, ◌≤◌, length, drop, [], None}
use Rattle.spec_node.specs.Batch.{after_all, batch}
use Rattle.mal_store.specs.Stored.{short_clauses}
use Rattle.mal_watch.proofs.batch.handle_short.Given as goal

abbrev pub invariant-loop-place : goal.invariant-loop-place
invariant-loop-place l =
    record {
      progress : after_all [] (record { trail = l.trail.entries; conflict = None }) (batch [] (drop l.place (short_clauses l.store.clauses))) ≡ after_all [] (record { trail = l.fn.trail.entries; conflict = None }) (batch [] l.store.clauses);
      longer : length l.fn.trail.entries ≤ length l.trail.entries;
      processed : l.trail.processed ≡ l.fn.trail.processed;
      room : l.trail.room ≡ l.fn.trail.room;
    }
