-- No two scripts are written as one text.
use Rattle.std.specs.Prelude.{◌≡◌, ◌≢◌, [], ◌∷◌, codes}
use Rattle.mal_base.specs.declared.limits.Limits.{Limits}
use Rattle.spec_script.specs.Script.{Scripted, spelling}
use Rattle.spec_script.specs.Formed.{IsScript}
use Rattle.spec_script.specs.Examples.{asks_anew, asks_first, job_named, job_with, second_profile}

-- two scripts in form with one text are equal
abbrev pub ScriptsDiffer : Type 0
ScriptsDiffer = (limits : Limits) (one other : Scripted) → IsScript limits one → IsScript limits other → spelling one ≡ spelling other → one ≡ other

-- two jobs without revisions, in either order
abbrev pub first_p : Scripted
first_p = record { jobs = job_named (codes "p") [] ∷ job_named (codes "q") [] ∷ [] }

abbrev pub first_q : Scripted
first_q = record { jobs = job_named (codes "q") [] ∷ job_named (codes "p") [] ∷ [] }

-- worked examples: another order of jobs or of steps, a job less, and another profile are other texts
pub record HaveOtherTexts : Type 0 where
  pub order : spelling first_p ≢ spelling first_q
  pub less : spelling first_p ≢ spelling (job_with [])
  pub profile : spelling second_profile ≢ spelling (job_with [])
  pub steps : spelling asks_anew ≢ spelling asks_first
