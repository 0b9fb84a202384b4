use Rattle.spec_inquiry.proofs.FirstLemmas.{assuming-may_ask, first-has_all, inquiry-is_supported}
use Rattle.spec_inquiry.proofs.first_has_all.Goals as goal

pub returns : goal.returns
returns c = record { first = first-has_all; room = assuming-may_ask; supported = inquiry-is_supported }
