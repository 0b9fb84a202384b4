use Rattle.spec_hall.specs.Dressed.{keyed}
use Rattle.mal_hall.proofs.ApplyLemmas.{fault-is, reask-refused}
use Rattle.mal_hall.proofs.hall.Hall.enter_reask.Goals as goal

pub returns-in-Err-clause-refused : goal.returns-in-Err-clause-refused
returns-in-Err-clause-refused c = λ is may. reask-refused _ _ _ (keyed c.args.tenant.now c.args.job.now) c.args.weight c.in-Err.fault c.in-Err.ensures.call (c.refusal_to_reask.ensures.refused (fault-is _ _ is) (keyed c.args.tenant.now c.args.job.now) c.args.weight) may
