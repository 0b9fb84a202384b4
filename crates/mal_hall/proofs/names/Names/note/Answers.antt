use Rattle.std.proofs.Common.{sym, ◌∙◌}
use Rattle.spec_hall.specs.Dressed.{keyed}
use Rattle.mal_hall.specs.Named.{found}
use Rattle.mal_hall.proofs.NameLemmas.{found-update, jobs-kept, jobs-known, jobs-more}
use Rattle.mal_hall.proofs.names.Names.note.Goals as goal

pub returns-in-Ok-Some-clause-found : goal.returns-in-Ok-Some-clause-found
returns-in-Ok-Some-clause-found c =
    let put = c.in-Ok-Some.ensures.updates in
    found-update c.args.self.now.numbers c.insert-2.new.self (keyed c.args.tenant c.args.job) c.args.number put.0

pub returns-in-Ok-Some-clause-jobs : goal.returns-in-Ok-Some-clause-jobs
returns-in-Ok-Some-clause-jobs c =
    let first = c.in-Ok.ensures.updates in
    let before = found c.args.self.now.numbers (keyed c.args.tenant c.args.job) in
    jobs-known c.args.self.now.tenants c.insert.new.self c.args.tenant c.jobs_of-jobs.result before _ (sym c.in-Ok-Some.ensures.old ∙ c.in-Ok-Some.field-0-is) c.jobs_of-jobs.ensures first.0

pub returns-in-Err-insert-clause-same_jobs : goal.returns-in-Err-insert-clause-same_jobs
returns-in-Err-insert-clause-same_jobs c =
    let first = c.in-Ok.ensures.updates in
    jobs-kept c.args.self.now.tenants c.insert.new.self c.args.tenant c.jobs_of-jobs.result c.jobs_of-jobs.ensures first.0

pub returns-clause-found : goal.returns-clause-found
returns-clause-found c =
    let put = c.in-Ok-None.ensures.updates in
    found-update c.args.self.now.numbers c.insert-2.new.self (keyed c.args.tenant c.args.job) c.args.number put.0

pub returns-clause-jobs : goal.returns-clause-jobs
returns-clause-jobs c =
    let first = c.in-Ok.ensures.updates in
    let second = c.in-Ok-insert.ensures.updates in
    let before = found c.args.self.now.numbers (keyed c.args.tenant c.args.job) in
    jobs-more c.args.self.now.tenants c.insert.new.self c.insert-3.new.self c.args.tenant c.jobs_of-jobs.result before (sym c.in-Ok-None.ensures.old ∙ c.in-Ok-None.field-0-is) c.jobs_of-jobs.ensures first.0 second.0
