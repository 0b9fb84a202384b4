use Rattle.spec_inquiry.proofs.ToldLemmas.{legal-told_stays, told-stays}
use Rattle.spec_inquiry.proofs.told_stays.Goals as goal

pub returns : goal.returns
returns c = record { legal = legal-told_stays; told = told-stays }
