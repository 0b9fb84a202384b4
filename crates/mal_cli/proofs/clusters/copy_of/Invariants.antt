use Rattle.std.proofs.Common.{◌≡◌, take}
use Rattle.mal_cli.proofs.clusters.copy_of.Given as goal

abbrev pub invariant-loop-step : goal.invariant-loop-step
invariant-loop-step l = l.steps.items ≡ take l.step-index l.all
