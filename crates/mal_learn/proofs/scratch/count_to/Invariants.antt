use Rattle.std.proofs.Common.{◌≡◌, ◌-◌, take, reverse}
use Rattle.spec_learn.specs.Analysis.{reached}
use Rattle.mal_learn.proofs.scratch.count_to.Given as goal

abbrev pub invariant-loop-made : goal.invariant-loop-made
invariant-loop-made g l = reached l.literal (reverse (take (l.count - l.made) (g.T.TrailView.entries l.trail))) ≡ reached l.literal (reverse (g.T.TrailView.entries l.trail))
