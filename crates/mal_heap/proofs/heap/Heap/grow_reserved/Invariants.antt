use Rattle.std.proofs.Common.{◌≡◌, ◌+◌, ◌++◌, false, replicate}
use Rattle.mal_heap.proofs.heap.Heap.grow_reserved.Given as goal

abbrev pub invariant-loop-grown : goal.invariant-loop-grown
invariant-loop-grown l =
    record {
      index : l.self.index ≡ l.fn.self.index;
      activities : l.self.activities ≡ l.fn.self.activities ++ replicate l._grown 0;
      inside : l.self.inside ≡ l.fn.self.inside ++ replicate l._grown false;
      room : l.self.room + l._grown ≡ l.fn.self.room;
    }
