use Rattle.spec_solving.proofs.ServingLemmas.{load-serves, slice-serves, give-up-serves}
use Rattle.spec_solving.proofs.nodes_go_on_serving.Goals as goal

pub returns-clause-load : goal.returns-clause-load
returns-clause-load c = load-serves

pub returns-clause-slice : goal.returns-clause-slice
returns-clause-slice c = slice-serves

pub returns-clause-less : goal.returns-clause-less
returns-clause-less c = give-up-serves
