use Rattle.mal_job.proofs.KeptLemmas.{kept-volume}
use Rattle.mal_job.proofs.job.Job.set_volume.Goals as goal

pub invariant_of-self : goal.invariant_of-self
invariant_of-self c = kept-volume (record { asked = c.self.inside.questions; tree = c.self.inside.tree; log = c.self.inside.log }) c.set_volume.new.self c.args.volume c.set_volume.ensures.value c.set_volume.ensures.kept c.self.invariant
