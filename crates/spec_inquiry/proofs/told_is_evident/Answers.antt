use Rattle.spec_inquiry.proofs.EvidenceLemmas.{legal-is_evident}
use Rattle.spec_inquiry.proofs.StayLemmas.{told-is_evident}
use Rattle.spec_inquiry.proofs.told_is_evident.Goals as goal

pub returns : goal.returns
returns c = record { legal = legal-is_evident; evident = told-is_evident }
