use Rattle.std.proofs.Common.{inr, refl, ◌∙◌}
use Rattle.mal_parts.proofs.ReadingLemmas.{closed_some, on_err}
use Rattle.mal_parts.proofs.reading.close_after.Goals as goal

pub returns-in-Err-clause-ends : goal.returns-in-Err-clause-ends
returns-in-Err-clause-ends g c =
    inr (refl, (_, closed_some c.args.keys.now c.loop-key.key-index, on_err _ _ c.in-Err.is c.enter-back.ensures.refused ∙ c.loop-key.invariant.2))
