use Rattle.std.proofs.Common.{◌∙◌}
use Rattle.std.proofs.lemmas.List.Sorted.{searched}
use Rattle.mal_store.proofs.IdLemmas.{found-any}
use Rattle.mal_store.proofs.ids.is_among.Goals as goal

pub returns : goal.returns
returns c = c.is_ok.ensures.value ∙ found-any c.args.ids.now c.args.id _ (searched c.args.ids.now c.args.id _ c.binary_search.ensures.position (λ i j l m. c.requires i j 0 l m))
