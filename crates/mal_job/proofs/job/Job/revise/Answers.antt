use Rattle.mal_job.proofs.KeptLemmas.{kept-revised}
use Rattle.mal_job.proofs.job.Job.revise.Goals as goal

pub invariant_of-self : goal.invariant_of-self
invariant_of-self c = kept-revised c.revise.result (record { asked = c.self.inside.questions; tree = c.self.inside.tree; log = c.self.inside.log }) c.revise.new.self c.args.revision c.empty.result c.clauses.ensures.form (rw (← c.self.view_is) at c.requires.clauses) c.empty.ensures c.revise.ensures.ok c.revise.ensures.err c.revise.ensures.kept c.self.invariant
