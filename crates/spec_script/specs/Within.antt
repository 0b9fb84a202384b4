use Rattle.std.specs.Prelude.{◌≤◌, length}
use Rattle.std.specs.List.{AllByRecursion}
use Rattle.mal_base.specs.declared.limits.Limits.{Limits}
use Rattle.spec_script.specs.Script.{Scripted, revisions}

-- a script has no more jobs, and no job of it more revisions, than the limits say
pub record IsWithin (limits : Limits) (s : Scripted) : Type 0 where
  pub jobs : length s.jobs ≤ limits.jobs
  pub revisions : AllByRecursion (λ j. length (revisions j) ≤ limits.revisions) s.jobs
