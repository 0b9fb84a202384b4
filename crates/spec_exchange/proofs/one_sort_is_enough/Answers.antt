use Rattle.spec_exchange.proofs.SortLemmas.{sorts-once}
use Rattle.spec_exchange.proofs.one_sort_is_enough.Goals as goal

pub returns : goal.returns
returns c = sorts-once
