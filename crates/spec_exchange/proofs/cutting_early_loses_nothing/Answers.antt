use Rattle.spec_exchange.proofs.PrefixLemmas.{cuts-early}
use Rattle.spec_exchange.proofs.TreeLemmas.{climb}
use Rattle.spec_exchange.proofs.cutting_early_loses_nothing.Goals as goal

pub returns-clause-early : goal.returns-clause-early
returns-clause-early c = cuts-early

pub returns-clause-up : goal.returns-clause-up
returns-clause-up c = climb
