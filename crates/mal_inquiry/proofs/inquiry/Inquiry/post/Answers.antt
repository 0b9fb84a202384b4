use Rattle.std.proofs.Common.{List, ap, refl}
use Rattle.spec_hall.specs.Dressed.{keyed}
use Rattle.spec_hall.specs.Events.{Event}
use Rattle.mal_inquiry.specs.InquiryView.{InquiryView}
use Rattle.mal_inquiry.proofs.InquiryLemmas.{posts-next, revising-same, revising-wanted}
use Rattle.mal_inquiry.proofs.inquiry.Inquiry.post.Goals as goal

pub unreachable-requires : goal.unreachable-requires
unreachable-requires c = revising-wanted c.self.inside.hall (keyed c.self.inside.tenant c.self.inside.job) c.self.inside.asked c.args.revision _ _ c.self.invariant (rw (← c.self.view_is) at c.requires) (rw c.in-Err-NoJob.field-0-is at c.in-Err-NoJob.ensures.call) refl

pub unreachable-requires-in-Err-Closed : goal.unreachable-requires-in-Err-Closed
unreachable-requires-in-Err-Closed c = revising-wanted c.self.inside.hall (keyed c.self.inside.tenant c.self.inside.job) c.self.inside.asked c.args.revision _ _ c.self.invariant (rw (← c.self.view_is) at c.requires) (rw c.in-Err-Closed.field-0-is at c.in-Err-Closed.ensures.call) refl

pub unreachable-requires-in-Err-RevisionsFull : goal.unreachable-requires-in-Err-RevisionsFull
unreachable-requires-in-Err-RevisionsFull c = revising-wanted c.self.inside.hall (keyed c.self.inside.tenant c.self.inside.job) c.self.inside.asked c.args.revision _ _ c.self.invariant (rw (← c.self.view_is) at c.requires) (rw c.in-Err-RevisionsFull.field-0-is at c.in-Err-RevisionsFull.ensures.call) refl

pub unreachable-requires-in-Err-JobFull : goal.unreachable-requires-in-Err-JobFull
unreachable-requires-in-Err-JobFull c = revising-wanted c.self.inside.hall (keyed c.self.inside.tenant c.self.inside.job) c.self.inside.asked c.args.revision _ _ c.self.invariant (rw (← c.self.view_is) at c.requires) (rw c.in-Err-JobFull.field-0-is at c.in-Err-JobFull.ensures.call) refl

pub returns-in-Err-OutOfMemory-clause-kept : goal.returns-in-Err-OutOfMemory-clause-kept
returns-in-Err-OutOfMemory-clause-kept c = rw (← c.self.view_is) (ap (λ (h : List Event). let i : InquiryView = record { key = keyed c.self.inside.tenant c.self.inside.job; events = h } in i) (revising-same _ c.self.inside.hall.events (keyed c.self.inside.tenant c.self.inside.job) c.args.revision _ (rw c.in-Err-OutOfMemory.field-0-is at c.in-Err-OutOfMemory.ensures.call)))

pub invariant_of-self-2 : goal.invariant_of-self-2
invariant_of-self-2 c = (posts-next c.self.inside.hall c.revise_job.new.self (keyed c.self.inside.tenant c.self.inside.job) c.self.inside.asked c.args.revision c.self.invariant c.revise_job.ensures.workers c.in-Ok.ensures.call).kept

pub returns-clause-posted : goal.returns-clause-posted
returns-clause-posted c = rw (← c.self.view_is) (posts-next c.self.inside.hall c.revise_job.new.self (keyed c.self.inside.tenant c.self.inside.job) c.self.inside.asked c.args.revision c.self.invariant c.revise_job.ensures.workers c.in-Ok.ensures.call).posted
