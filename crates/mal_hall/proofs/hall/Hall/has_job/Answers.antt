use Rattle.spec_hall.specs.Dressed.{keyed}
use Rattle.mal_hall.proofs.LookingLemmas.{here-test}
use Rattle.mal_hall.proofs.hall.Hall.has_job.Goals as goal

pub returns : goal.returns
returns c = rw (← c.self.view_is) (here-test _ (keyed c.args.tenant.now c.args.job.now) _ _ c.self.invariant c.place_of.ensures c.is_some.ensures)
