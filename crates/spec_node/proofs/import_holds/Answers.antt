use Rattle.spec_node.proofs.ImportLemmas.{import-holds, import-may_leave}
use Rattle.spec_node.proofs.import_holds.Goals as goal

pub returns : goal.returns
returns c = record { holds = import-holds; may_leave = import-may_leave }
