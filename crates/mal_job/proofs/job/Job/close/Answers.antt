use Rattle.mal_job.proofs.KeptLemmas.{kept-closed}
use Rattle.mal_job.proofs.job.Job.close.Goals as goal

pub invariant_of-self : goal.invariant_of-self
invariant_of-self c = rw (c.close.ensures, c.give_up.ensures) (kept-closed (record { asked = c.self.inside.questions; tree = c.self.inside.tree; log = c.self.inside.log }) c.self.invariant)
