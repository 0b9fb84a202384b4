use Rattle.spec_live.proofs.TurnLemmas.{turns-are_legal, turns-post_nothing}
use Rattle.spec_live.proofs.turns_post_nothing.Goals as goal

pub returns-clause-unposted : goal.returns-clause-unposted
returns-clause-unposted c = turns-post_nothing

pub returns-clause-legal : goal.returns-clause-legal
returns-clause-legal c = turns-are_legal
