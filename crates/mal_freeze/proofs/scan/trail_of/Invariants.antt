use Rattle.std.proofs.Common.{◌≡◌, ◌≤◌, [], take, drop}
use Rattle.mal_freeze.specs.Imaged.{all_follow}
use Rattle.mal_freeze.proofs.scan.trail_of.Given as goal

abbrev pub invariant-loop-entry : goal.invariant-loop-entry
invariant-loop-entry l =
    record {
      done : all_follow l.greatest (take l.entry-index l.entries) (drop l.entry-index l.entries) ≡ all_follow l.greatest [] l.entries;
      entries_are : l.trail.entries ≡ take l.entry-index l.entries;
      room : l.greatest ≤ l.trail.room;
    }
