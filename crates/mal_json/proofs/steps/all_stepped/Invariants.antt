use Rattle.std.proofs.Common.{◌≡◌, [], length, map}
use Rattle.serde_json.specs.View.{view}
use Rattle.spec_json.specs.Reading.{all_stepped}
use Rattle.mal_json.proofs.steps.all_stepped.Given as goal

abbrev pub invariant-loop-value : goal.invariant-loop-value
invariant-loop-value l = all_stepped l.job l.steps (map view l.rest) ≡ all_stepped l.job [] (map view l.values)

abbrev pub decreases-loop-value : goal.decreases-loop-value
decreases-loop-value l = length l.rest
