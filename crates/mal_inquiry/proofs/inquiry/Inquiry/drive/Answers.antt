use Rattle.spec_hall.specs.Dressed.{keyed}
use Rattle.mal_inquiry.proofs.InquiryLemmas.{answered-on, turns-kept}
use Rattle.mal_inquiry.proofs.inquiry.Inquiry.drive.Goals as goal

pub invariant_of-self : goal.invariant_of-self
invariant_of-self c = turns-kept c.self.inside.hall c.drive.new.self (keyed c.self.inside.tenant c.self.inside.job) c.self.inside.asked c.self.invariant c.drive.ensures.workers c.drive.ensures.home c.drive.ensures.turns

pub returns-clause-answered : goal.returns-clause-answered
returns-clause-answered c = answered-on c.drive.result c.drive.new.self (keyed c.self.inside.tenant c.self.inside.job) c.self.inside.asked (turns-kept c.self.inside.hall c.drive.new.self (keyed c.self.inside.tenant c.self.inside.job) c.self.inside.asked c.self.invariant c.drive.ensures.workers c.drive.ensures.home c.drive.ensures.turns) c.drive.ensures.end c.drive.ensures.answered
