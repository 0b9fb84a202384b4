use Rattle.spec_text.proofs.Clean as clean
use Rattle.spec_text.proofs.laws.literals_are_clean.Goals as goal

pub returns : goal.returns
returns c = clean.literals_are_clean
