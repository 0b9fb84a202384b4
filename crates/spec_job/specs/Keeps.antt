use Rattle.std.specs.Prelude.{◌≡◌}
use Rattle.spec_job.specs.SoloMachine.{SoloMachine}

-- a later state has the ask, the volume, the revisions and the closing of an earlier one
pub record KeepsTerms (before after : SoloMachine) : Type 0 where
  pub ask : after.ask ≡ before.ask
  pub volume : after.volume ≡ before.volume
  pub revisions : after.revisions ≡ before.revisions
  pub closed : after.closed ≡ before.closed
