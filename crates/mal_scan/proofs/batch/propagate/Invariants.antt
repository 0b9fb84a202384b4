use Rattle.std.proofs.Common.{◌≡◌, ◌≤◌, length, take, drop, None}
use Rattle.spec_node.specs.Batch.{after_all, batch}
use Rattle.mal_scan.proofs.batch.propagate.Given as goal

abbrev pub invariant-loop-place : goal.invariant-loop-place
invariant-loop-place l =
    let prefix = take l.count l.fn.trail.entries in
    record {
      progress : after_all prefix (record { trail = l.trail.entries; conflict = None }) (batch prefix (drop l.place l.store.clauses)) ≡ after_all prefix (record { trail = l.fn.trail.entries; conflict = None }) (batch prefix l.store.clauses);
      prefix : take l.count l.trail.entries ≡ prefix;
      longer : length l.fn.trail.entries ≤ length l.trail.entries;
      processed : l.trail.processed ≡ l.fn.trail.processed;
      room : l.trail.room ≡ l.fn.trail.room;
    }
