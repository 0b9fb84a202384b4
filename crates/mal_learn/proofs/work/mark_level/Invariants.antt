use Rattle.std.proofs.Common.{◌≡◌, drop, length}
use Rattle.mal_learn.specs.Working.{here_all}
use Rattle.mal_learn.proofs.work.mark_level.Given as goal

abbrev pub invariant-loop-place : goal.invariant-loop-place
invariant-loop-place g l = record {
  marks : here_all l.level (drop l.place (g.T.TrailView.entries l.trail)) l.here ≡ here_all l.level (g.T.TrailView.entries l.trail) l.fn.here;
  len : length l.here ≡ length l.fn.here;
}
