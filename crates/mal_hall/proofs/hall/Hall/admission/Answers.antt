use Rattle.std.proofs.Common.{◌≡◌, sym, ◌∙◌}
use Rattle.spec_hall.specs.Dressed.{keyed}
use Rattle.spec_hall.specs.Legal.{jobs_of, tenant_count}
use Rattle.spec_hall.specs.States.{names_of}
use Rattle.mal_hall.proofs.HallLemmas.{hall-jobs}
use Rattle.mal_hall.proofs.LookingLemmas.{come-known, come-new, job-away, job-here}
use Rattle.mal_hall.proofs.Parts.{parts}
use Rattle.mal_hall.proofs.hall.Hall.admission.Goals as goal

pub returns-then-has_job : goal.returns-then-has_job
returns-then-has_job c = job-here c.args.self.now.events (keyed c.args.tenant.now c.args.job.now) (sym c.has_job.ensures ∙ c.if-has_job.true)

pub returns-then-has_had : goal.returns-then-has_had
returns-then-has_had c = come-known c.args.self.now.events (keyed c.args.tenant.now c.args.job.now) (job-away c.args.self.now.events (keyed c.args.tenant.now c.args.job.now) (sym c.has_job.ensures ∙ c.if-has_job.false)) (sym c.has_had.ensures ∙ c.if-has_had.true)

pub returns-in-Ok : goal.returns-in-Ok
returns-in-Ok c =
    let away = job-away c.args.self.now.events (keyed c.args.tenant.now c.args.job.now) (sym c.has_job.ensures ∙ c.if-has_job.false) in
    let count : c.jobs_of.result ≡ jobs_of c.args.tenant.now (names_of c.args.self.now.events) = rw (← c.self.view_is) (hall-jobs (parts c.self.inside) c.args.tenant.now _ c.self.invariant c.jobs_of.ensures) in
    let tenants : c.self.inside.tenants ≡ tenant_count (names_of c.args.self.now.events) = rw (← c.self.view_is) c.self.invariant.noted.tenants_is in
    come-new c.args.self.now.events (keyed c.args.tenant.now c.args.job.now) _ _ away count tenants c.in-Ok.ensures.few c.in-Ok.ensures.others

pub returns-in-Err : goal.returns-in-Err
returns-in-Err c =
    let away = job-away c.args.self.now.events (keyed c.args.tenant.now c.args.job.now) (sym c.has_job.ensures ∙ c.if-has_job.false) in
    let count : c.jobs_of.result ≡ jobs_of c.args.tenant.now (names_of c.args.self.now.events) = rw (← c.self.view_is) (hall-jobs (parts c.self.inside) c.args.tenant.now _ c.self.invariant c.jobs_of.ensures) in
    let tenants : c.self.inside.tenants ≡ tenant_count (names_of c.args.self.now.events) = rw (← c.self.view_is) c.self.invariant.noted.tenants_is in
    c.in-Err.ensures.refusal (keyed c.args.tenant.now c.args.job.now) c.args.self.now.events away (sym c.has_had.ensures ∙ c.if-has_had.false) count tenants
