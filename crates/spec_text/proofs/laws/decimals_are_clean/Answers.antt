use Rattle.spec_text.proofs.Clean as clean
use Rattle.spec_text.proofs.laws.decimals_are_clean.Goals as goal

pub returns : goal.returns
returns c = clean.decimals_are_clean
