use Rattle.mal_trail.proofs.FlipLemmas.{flipped}
use Rattle.mal_trail.proofs.trail.negation_code.Goals as goal

pub returns-clause-value : goal.returns-clause-value
returns-clause-value c = rw (c.code.ensures.value) (flipped c.args.lit)
