use Rattle.std.proofs.Common.{refl}
use Rattle.spec_hall.specs.Dressed.{keyed}
use Rattle.mal_inquiry.proofs.InquiryLemmas.{job-there, lines-told}
use Rattle.mal_inquiry.proofs.inquiry.Inquiry.lines.Goals as goal

pub unreachable-requires : goal.unreachable-requires
unreachable-requires c = job-there c.self.inside.hall (keyed c.self.inside.tenant c.self.inside.job) c.self.inside.asked c.self.invariant ((rw c.in-Err-NoJob.field-0-is at c.in-Err-NoJob.ensures.no_job) refl)

pub returns-in-Ok : goal.returns-in-Ok
returns-in-Ok c = rw (← c.self.view_is) (lines-told c.self.inside.hall (keyed c.self.inside.tenant c.self.inside.job) c.self.inside.asked c.args.r c.in-Ok.told c.lines_of.result.lines c.self.invariant c.in-Ok.ensures.answer c.lines_of.ensures)
