use Rattle.std.proofs.Common.{◌≡◌, ◌≤◌, length, take}
use Rattle.spec_guided.specs.Glue.{levels_of}
use Rattle.mal_glue.proofs.GlueLemmas.{HasCounted}
use Rattle.mal_glue.proofs.levels.Levels.glue.Given as goal

abbrev pub invariant-loop-lit : goal.invariant-loop-lit
invariant-loop-lit l = record {
  long : length l.self-inside.flags ≡ l.fn.self;
  counted : HasCounted l.self-inside.flags l.count (levels_of l.trail.entries (take l.lit-index l.lits));
  few : l.count ≤ l.lit-index;
}
