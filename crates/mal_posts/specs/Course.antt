-- Where a walk over a tenant's posts stands.
use Rattle.std.specs.Prelude.{List}
use Rattle.spec_hall.specs.Events.{Event}
use Rattle.spec_script.specs.Script.{ScriptedJob}

-- the jobs of a script, and what is still due of them: openings, and then steps and closings
pub record Course : Type 0 where
  pub jobs : List ScriptedJob
  pub openings : List Event
  pub others : List Event
