use Rattle.std.proofs.Common.{◌≡◌, [], length, map}
use Rattle.mal_base.specs.Limits.{limits}
use Rattle.serde_json.specs.View.{view}
use Rattle.spec_json.specs.Reading.{with_jobs}
use Rattle.mal_json.proofs.jobs.all_jobs.Given as goal

abbrev pub invariant-loop-value : goal.invariant-loop-value
invariant-loop-value l = with_jobs limits l.jobs (map view l.rest) ≡ with_jobs limits [] (map view l.values)

abbrev pub decreases-loop-value : goal.decreases-loop-value
decreases-loop-value l = length l.rest
