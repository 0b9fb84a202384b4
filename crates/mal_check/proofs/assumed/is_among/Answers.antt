use Rattle.std.proofs.Common.{◌∙◌}
use Rattle.mal_check.proofs.AssumedLemmas.{found-is-any}
use Rattle.mal_check.proofs.assumed.is_among.Goals as goal

pub returns : goal.returns
returns c = c.is_ok.ensures.value ∙ found-is-any c.args.lits.now c.args.lit c.binary_search.result c.requires c.binary_search.ensures.position
