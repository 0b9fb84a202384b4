use Rattle.std.proofs.Common.{◌≡◌, ◌+◌, drop, length}
use Rattle.std.specs.Prelude.{◌↔◌}
use Rattle.spec_hall.specs.Dressed.{revisions_of}
use Rattle.spec_hall.specs.States.{states}
use Rattle.spec_run.specs.Complete.{key_of_job}
use Rattle.spec_script.specs.Script.{revisions_in}
use Rattle.mal_pool.specs.Testing.{HasSteps}
use Rattle.mal_pool.proofs.testing.has_contents.Given as goal

abbrev pub invariant-loop-step : goal.invariant-loop-step
invariant-loop-step l = record {
  has : HasSteps (revisions_of (key_of_job l.job) (states l.hall.events)) 0 l.steps ↔ HasSteps (revisions_of (key_of_job l.job) (states l.hall.events)) l.at (drop l.step-index l.steps);
  few : l.at + length (revisions_in (drop l.step-index l.steps)) ≡ length (revisions_in l.steps);
}
