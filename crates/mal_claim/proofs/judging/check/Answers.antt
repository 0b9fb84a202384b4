use Rattle.mal_claim.proofs.JudgedLemmas.{judged-verified}
use Rattle.mal_claim.proofs.judging.check.Goals as goal

pub returns-clause-verified : goal.returns-clause-verified
returns-clause-verified c = judged-verified c.args.text.now c.judge.result c.judge.ensures
