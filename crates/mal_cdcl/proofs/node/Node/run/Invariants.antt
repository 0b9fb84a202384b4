use Rattle.std.proofs.Common.{◌≡◌, ◌-◌, ◌≤◌}
use Rattle.mal_cdcl.proofs.SliceLemmas.{IsSlicing}
use Rattle.mal_cdcl.proofs.node.Node.run.Given as goal

abbrev pub invariant-loop-made : goal.invariant-loop-made
invariant-loop-made g l =
    record {
      slicing : IsSlicing (1000 - l._made) l.used l.fn.self l.self;
      bound : l.scratch.room ≡ l.fn.scratch.room;
      ids : l.scratch.ids ≡ l.fn.scratch.ids;
      made : l._made ≤ 1000;
    }
