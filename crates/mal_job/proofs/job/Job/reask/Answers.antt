use Rattle.mal_job.proofs.KeptLemmas.{kept-reasked}
use Rattle.mal_job.proofs.job.Job.reask.Goals as goal

pub invariant_of-self : goal.invariant_of-self
invariant_of-self c = rw c.reask.ensures (kept-reasked (record { asked = c.self.inside.questions; tree = c.self.inside.tree; log = c.self.inside.log }) c.args.weight c.self.invariant)
