use Rattle.spec_inquiry.proofs.OpenLemmas.{inquiry-is_open}
use Rattle.spec_inquiry.proofs.RoundLemmas.{inquiry-grows, inquiry-is_legal}
use Rattle.spec_inquiry.proofs.inquiry_is_legal.Goals as goal

pub returns : goal.returns
returns c = record { legal = inquiry-is_legal; opened = inquiry-is_open; grows = inquiry-grows }
