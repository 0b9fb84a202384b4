use Rattle.mal_freeze.proofs.CanonicalLemmas.{unheld}
use Rattle.mal_freeze.proofs.thawing.parts_of.Goals as goal

pub returns-in-None-2 : goal.returns-in-None-2
returns-in-None-2 c = unheld c.args.fields (rw (← c.fields.view_is) (rw (← c.as_slice.ensures.value) (rw c.in-None-2.is at c.in_ok-held_of.ensures)))
