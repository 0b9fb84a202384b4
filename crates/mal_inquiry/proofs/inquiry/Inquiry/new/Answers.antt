use Rattle.std.proofs.Common.{◌∙◌}
use Rattle.spec_hall.specs.Dressed.{keyed}
use Rattle.mal_inquiry.proofs.InquiryLemmas.{new-kept}
use Rattle.mal_inquiry.proofs.inquiry.Inquiry.new.Goals as goal

pub invariant_of-result : goal.invariant_of-result
invariant_of-result c = new-kept c.open.new.hall (keyed c.args.tenant c.args.job) c.args.ask (c.open.ensures.workers ∙ c.in_ok-hall.ensures.workers) c.in-Ok.ensures.inquiry
