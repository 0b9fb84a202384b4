-- Worked examples.
use Rattle.std.specs.Prelude.{◌≡◌, [], ◌∷◌, codes, Some, None}
use Rattle.mal_base.specs.declared.profile.Profile.TheVariants.{Plain}
use Rattle.mal_history.specs.declared.event.Event.TheVariants as of
use Rattle.mal_revision.specs.Posted.{Posted}
use Rattle.spec_hall.specs.Dressed.{keyed}
use Rattle.spec_hall.specs.Events.{Close, Revise}
use Rattle.spec_run.specs.Accounted.{event_by}
use Rattle.spec_script.specs.Script.{Scripted}
use Rattle.spec_script.specs.declared.step.Step.TheVariants as steps

-- a revision of no clauses over two variables
abbrev pub free : Posted
free = record { variables = 2; clauses = []; assumptions = [] }

-- a script with the job p of the tenant a, which has that one revision
abbrev pub one_job : Scripted
one_job = record { jobs = record { tenant = codes "a"; name = codes "p"; ask = record { priority = 1; demand = 1; slices = 4; profile = Plain }; steps = steps.Revise free ∷ [] } ∷ [] }

-- the first revision of that job is the script's; it lacks a second one, and the revisions of other jobs; a closing
-- needs none, and a move stands for no event
pub record HasEvents : Type 0 where
  pub first : event_by one_job (of.Revise (codes "a") (codes "p") 1) ≡ Some (Revise (keyed (codes "a") (codes "p")) 1 free)
  pub second : event_by one_job (of.Revise (codes "a") (codes "p") 2) ≡ None
  pub zeroth : event_by one_job (of.Revise (codes "a") (codes "p") 0) ≡ None
  pub other : event_by one_job (of.Revise (codes "a") (codes "q") 1) ≡ None
  pub leave : event_by one_job (of.Leave (codes "a") (codes "p")) ≡ None
  pub arrive : event_by one_job (of.Arrive (codes "a") (codes "p")) ≡ None
  pub closing : event_by one_job (of.Close (codes "a") (codes "q")) ≡ Some (Close (keyed (codes "a") (codes "q")))
