use Rattle.std.proofs.Common.{◌≡◌}
use Rattle.std.specs.Prelude.{map}
use Rattle.mal_store.specs.Stored.{settled_in}
use Rattle.mal_store.proofs.store.renumber.Given as goal

abbrev pub invariant-loop-place : goal.invariant-loop-place
invariant-loop-place l =
    record {
      entries : l.index.entries ≡ map (settled_in l.long.clauses l.place) l.fn.index.entries;
      room : l.index.room ≡ l.fn.index.room;
    }
