use Rattle.spec_hall.specs.Dressed.{keyed}
use Rattle.mal_hall.proofs.MovingLemmas.{packs-job, packs-none}
use Rattle.mal_hall.proofs.hall.Hall.pack_job.Goals as goal

pub returns-in-Ok-clause-call : goal.returns-in-Ok-clause-call
returns-in-Ok-clause-call c =
    let key = rw c.in-Some.is at c.job_named.ensures.key in
    packs-job _ _ (keyed c.args.tenant.now c.args.job.now) c.in-Some.job.now.titled c.in-Ok.parcel _ key c.in-Ok.ensures.may c.first_out.ensures c.in-None.is c.in-Ok.ensures.parcel

pub returns-in-Err-clause-call : goal.returns-in-Err-clause-call
returns-in-Err-clause-call c =
    let key = rw c.in-Some.is at c.job_named.ensures.key in
    packs-none _ _ (keyed c.args.tenant.now c.args.job.now) c.in-Some.job.now.titled key c.in-Err.ensures.may
