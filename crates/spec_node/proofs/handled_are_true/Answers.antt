use Rattle.spec_node.proofs.ChainLemmas.{handled-are_true}
use Rattle.spec_node.proofs.handled_are_true.Goals as goal

pub returns : goal.returns
returns c = handled-are_true
