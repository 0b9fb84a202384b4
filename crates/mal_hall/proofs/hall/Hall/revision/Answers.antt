use Rattle.std.proofs.Common.{◌∙◌}
use Rattle.spec_hall.specs.Dressed.{keyed}
use Rattle.spec_hall.specs.States.{states}
use Rattle.mal_hall.proofs.PhaseLemmas.{among-found, among-none}
use Rattle.mal_hall.proofs.hall.Hall.revision.Goals as goal

pub returns-in-None : goal.returns-in-None
returns-in-None c = among-none (states c.args.self.now.events) (keyed c.args.tenant.now c.args.job.now) c.args.r (rw c.in-None.is at c.job_named.ensures.found)

pub returns-in-Some : goal.returns-in-Some
returns-in-Some c = c.revision.ensures ∙ among-found (states c.args.self.now.events) (keyed c.args.tenant.now c.args.job.now) c.args.r c.in-Some.job.now.titled (rw c.in-Some.is at c.job_named.ensures.found)
