use Rattle.std.proofs.Common.{◌∙◌, ◌++◌, List, ap}
use Rattle.spec_hall.specs.Dressed.{keyed}
use Rattle.spec_hall.specs.Events.{Event}
use Rattle.mal_cluster.proofs.MovingLemmas.{admits-wanting, handed-went, handed-workers, histories-same, never-ok, on-err, packs-home, packs-there, refused-same, workers-set}
use Rattle.mal_cluster.proofs.moving.hand_over.Goals as goal

pub unreachable-requires : goal.unreachable-requires
unreachable-requires c = packs-there c.args.halls.now.items (keyed c.args.tenant.now c.args.job.now) c.args.from c.args.to c.requires c.index.result.now c.index.ensures _ _ (rw c.in-Err-NoJob.field-0-is at c.in-Err-NoJob.ensures.call)

pub unreachable-requires-in-Err-Out : goal.unreachable-requires-in-Err-Out
unreachable-requires-in-Err-Out c = packs-home c.args.halls.now.items (keyed c.args.tenant.now c.args.job.now) c.args.from c.args.to c.requires c.index.result.now c.index.ensures _ _ _ (rw c.in-Err-Out.field-0-is at c.in-Err-Out.ensures.call)

pub wanting-requires : goal.wanting-requires
wanting-requires c = admits-wanting c.args.halls.now.items (keyed c.args.tenant.now c.args.job.now) c.args.from c.args.to c.requires c.index_mut.result.now c.index_mut.ensures.value _ c.in-Ok.parcel.key c.in-Ok.parcel.own c.in-Err.fault _ c.in-Ok.ensures.key c.in-Err.ensures.call

pub returns-in-Err-clause-workers : goal.returns-in-Err-clause-workers
returns-in-Err-clause-workers c = workers-set c.args.halls.now.items c.args.to c.index_mut.result.now c.admit_job.new.self c.requires.there c.index_mut.ensures.value c.admit_job.ensures.workers

pub returns-in-Err-clause-went : goal.returns-in-Err-clause-went
returns-in-Err-clause-went c = never-ok _ c.wanting.result c.wanting.ensures

pub returns-in-Err-clause-kept : goal.returns-in-Err-clause-kept
returns-in-Err-clause-kept c = on-err _ c.wanting.result (histories-same c.args.halls.now.items c.args.to c.index_mut.result.now c.admit_job.new.self c.requires.there c.index_mut.ensures.value (refused-same c.index_mut.result.now.workers c.index_mut.result.now.events c.admit_job.new.self.events c.in-Ok.parcel.key c.in-Ok.parcel.own c.in-Err.fault c.in-Err.ensures.call))

pub returns-clause-workers : goal.returns-clause-workers
returns-clause-workers c = handed-workers c.args.halls.now.items _ c.args.from c.args.to c.requires c.index_mut.result.now c.admit_job.new.self c.index_mut-2.result.now c.leave_job.new.self c.index_mut.ensures.value c.index_mut-2.ensures.value c.admit_job.ensures.workers c.leave_job.ensures.workers

pub returns-clause-went : goal.returns-clause-went
returns-clause-went c =
    let packs = c.in-Ok.ensures.call.call in
    let comes = c.in-Ok-admit_job.ensures.call in
    let leaves = c.leave_job.ensures.call in
    handed-went c.args.halls.now.items _ c.args.from c.args.to c.requires c.index_mut.result.now c.admit_job.new.self c.index_mut-2.result.now c.leave_job.new.self c.index_mut.ensures.value c.index_mut-2.ensures.value
    c.index.result.now c.in-Ok.parcel.key c.in-Ok.parcel.own c.index.ensures packs.3 c.in-Ok.ensures.key comes.call.0 (comes.grown ∙ ap (λ (es : List Event). c.index_mut.result.now.events ++ es) comes.call.1) (leaves.grown ∙ ap (λ (es : List Event). c.index_mut-2.result.now.events ++ es) leaves.call.2)
