use Rattle.spec_hall.specs.Dressed.{keyed}
use Rattle.mal_hall.proofs.ApplyLemmas.{fault-is, revise-refused}
use Rattle.mal_hall.proofs.hall.Hall.enter_revise.Goals as goal

pub returns-in-Err-clause-refused : goal.returns-in-Err-clause-refused
returns-in-Err-clause-refused c = λ is may. revise-refused _ _ _ (keyed c.args.tenant.now c.args.job.now) c.args.number c.args.revision c.in-Err.fault c.in-Err.ensures.call (c.refusal_to_revise.ensures.refused (fault-is _ _ is) (keyed c.args.tenant.now c.args.job.now) c.args.revision) may
