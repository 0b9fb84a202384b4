use Rattle.mal_script.proofs.Found.{jobs-formed}
use Rattle.mal_script.proofs.reading.read_jobs.Goals as goal

pub returns-clause-formed : goal.returns-clause-formed
returns-clause-formed c = jobs-formed (λ v. v.items) c.args.limits c.args.text.now c.read_rows.result c.read_rows.ensures
