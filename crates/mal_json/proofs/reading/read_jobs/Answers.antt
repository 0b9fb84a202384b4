use Rattle.mal_base.specs.Limits.{limits}
use Rattle.mal_json.proofs.Found.{jobs_exact, jobs_formed}
use Rattle.mal_json.proofs.reading.read_jobs.Goals as goal

pub returns-clause-exact : goal.returns-clause-exact
returns-clause-exact c = jobs_exact (λ v. v.items) limits c.args.text.now c.jobs_of.result c.jobs_of.ensures

pub returns-clause-formed : goal.returns-clause-formed
returns-clause-formed c = jobs_formed (λ v. v.items) limits c.args.text.now c.jobs_of.result (jobs_exact (λ v. v.items) limits c.args.text.now c.jobs_of.result c.jobs_of.ensures)
