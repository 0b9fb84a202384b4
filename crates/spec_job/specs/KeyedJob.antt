pub use Rattle.mal_base.specs.declared.key.Key.{Key}
use Rattle.spec_job.specs.SoloMachine.{SoloMachine, Own, solo_step}

-- a job with its machine
pub record KeyedJob : Type 0 where
  pub key : Key
  pub state : SoloMachine

-- a job after one more event of its own
abbrev pub stepped : KeyedJob → Own → KeyedJob
stepped t o = record { key = t.key; state = solo_step t.state o }
