use Rattle.std.proofs.lemmas.List.Sorted.{non_decreasing_from_is_sorted}
use Rattle.mal_check.proofs.AssumedLemmas.{where-true}
use Rattle.mal_check.proofs.assumed.are_rising.Goals as goal

pub returns : goal.returns
returns c = where-true c.is_sorted.result _ _ (non_decreasing_from_is_sorted c.args.lits.now c.is_sorted.result c.is_sorted.ensures.cases)
