use Rattle.mal_job.proofs.KeptLemmas.{kept-fresh}
use Rattle.mal_job.proofs.job.Job.fresh.Goals as goal

pub invariant_of-result : goal.invariant_of-result
invariant_of-result c = kept-fresh c.fresh.result c.fresh-2.result c.new.result c.args.number c.args.ask c.fresh.ensures.value (rw c.profile.ensures at c.fresh-2.ensures.value) c.new.ensures.lines c.new.ensures.slices c.fresh.ensures.kept c.fresh-2.ensures.kept
