use Rattle.std.proofs.Common.{subst, arith}
use Rattle.std.proofs.lemmas.Grind.{common_steps}
use Rattle.mal_text.proofs.asks.put_ask.Goals as goal

pub returns : goal.returns
returns g c =
    let more = g.met.T.Taker.more in
    subst (g.T.Taker.took _ _) (grind (arith, common_steps)) (more _ _ _ _ _ c.in_ok-put_words.ensures c.in_ok-put_profile.ensures)
