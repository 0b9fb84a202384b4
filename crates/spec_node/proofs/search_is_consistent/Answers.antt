use Rattle.spec_node.proofs.LoadLemmas.{fresh-consistent, loaded-consistent}
use Rattle.spec_node.proofs.search_is_consistent.Goals as goal

pub returns : goal.returns
returns c = record { fresh = fresh-consistent; load = loaded-consistent }
