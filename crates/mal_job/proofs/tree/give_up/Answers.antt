use Rattle.std.proofs.Common.{◌∙◌}
use Rattle.mal_job.proofs.PlaceLemmas.{set-same}
use Rattle.mal_job.proofs.tree.give_up.Goals as goal

pub loop-index-preserved : goal.loop-index-preserved
loop-index-preserved c = set-same c.loop-index.places.items c.loop-index.index c.index_mut.result.now c.give_up.new.self c.index_mut.ensures.value c.give_up.ensures ∙ c.loop-index.invariant
