use Rattle.std.proofs.Common.{◌≡◌, ◌+◌, drop}
use Rattle.mal_learn.specs.Packed.{literals_of, hints_of}
use Rattle.mal_learn.proofs.packing.sizes_of.Given as goal

abbrev pub invariant-loop-n : goal.invariant-loop-n
invariant-loop-n l =
    record {
      literals : l.literals + literals_of (drop l.n l.lines.lines) ≡ literals_of l.lines.lines;
      hints : l.hints + hints_of (drop l.n l.lines.lines) ≡ hints_of l.lines.lines;
    }
