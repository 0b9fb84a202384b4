use Rattle.spec_exchange.proofs.ClimbLemmas.{node-by-node, climbs-to_same}
use Rattle.spec_exchange.proofs.the_tree_gives_the_same.Goals as goal

pub returns-clause-nodes : goal.returns-clause-nodes
returns-clause-nodes c = node-by-node

pub returns-clause-root : goal.returns-clause-root
returns-clause-root c = climbs-to_same
