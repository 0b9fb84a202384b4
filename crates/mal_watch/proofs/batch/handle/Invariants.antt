use Rattle.std.proofs.Common.{◌≡◌, ◌≤◌, ℕ, length, take, drop, None}
use Rattle.mal_watch.specs.Finding.{after_found}
use Rattle.mal_watch.proofs.batch.handle.Given as goal

abbrev pub invariant-loop-next : goal.invariant-loop-next
invariant-loop-next l =
    record {
      progress : after_found (record { trail = l.trail.entries; conflict = None }) (drop l.next-index l.found) ≡ after_found (record { trail = l.fn.trail.entries; conflict = None }) l.found;
      prefix : (n : ℕ) → n ≤ length l.fn.trail.entries → take n l.trail.entries ≡ take n l.fn.trail.entries;
      longer : length l.fn.trail.entries ≤ length l.trail.entries;
      processed : l.trail.processed ≡ l.fn.trail.processed;
      room : l.trail.room ≡ l.fn.trail.room;
    }
