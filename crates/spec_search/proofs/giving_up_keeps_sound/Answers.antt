use Rattle.spec_search.proofs.FewerLemmas.{gives-up}
use Rattle.spec_search.proofs.giving_up_keeps_sound.Goals as goal

pub returns : goal.returns
returns c = gives-up
