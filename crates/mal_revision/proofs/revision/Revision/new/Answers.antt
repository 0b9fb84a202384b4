use Rattle.mal_revision.proofs.Refusals.{fits-from_answer}
use Rattle.mal_revision.proofs.revision.Revision.new.Goals as goal

pub returns-clause-fits : goal.returns-clause-fits
returns-clause-fits c = fits-from_answer _ _ _ _ c.of_sorted.ensures.made c.of_sorted.ensures.refused
