use Rattle.std.proofs.Common.{refl}
use Rattle.spec_hall.specs.Dressed.{keyed}
use Rattle.mal_inquiry.proofs.InquiryLemmas.{job-there, last-answered, last-found}
use Rattle.mal_inquiry.proofs.inquiry.Inquiry.found.Goals as goal

pub unreachable-requires : goal.unreachable-requires
unreachable-requires c = last-answered c.self.inside.hall (keyed c.self.inside.tenant c.self.inside.job) c.self.inside.asked c.self.invariant (rw (← c.self.view_is) at c.requires.answered) (rw (← c.self.view_is) at c.requires.some) (rw c.in-Ok-None.field-0-is at c.in-Ok-None.ensures.found)

pub unreachable-requires-in-Err-NoJob : goal.unreachable-requires-in-Err-NoJob
unreachable-requires-in-Err-NoJob c = job-there c.self.inside.hall (keyed c.self.inside.tenant c.self.inside.job) c.self.inside.asked c.self.invariant ((rw c.in-Err-NoJob.field-0-is at c.in-Err-NoJob.ensures.no_job) refl)

pub returns-in-Ok-Some : goal.returns-in-Ok-Some
returns-in-Ok-Some c = rw (← c.self.view_is) (last-found c.self.inside.hall (keyed c.self.inside.tenant c.self.inside.job) c.self.inside.asked c.in-Ok-Some.found c.self.invariant (rw c.in-Ok-Some.field-0-is at c.in-Ok-Some.ensures.found))
