use Rattle.spec_node.proofs.LoadLemmas.{load-holds, numbers-mean_same}
use Rattle.spec_node.proofs.ChainLemmas.{loads-hold_all}
use Rattle.spec_node.proofs.load_holds.Goals as goal

pub returns : goal.returns
returns c = record { load = load-holds; numbers = numbers-mean_same; all = loads-hold_all }
