use Rattle.mal_hall.proofs.hall.Hall.admission_of.Goals as goal

pub returns : goal.returns
returns c = rw (c.tenant-tenant.ensures, c.job-job.ensures) at c.admission.ensures
