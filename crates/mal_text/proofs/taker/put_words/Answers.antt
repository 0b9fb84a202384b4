use Rattle.std.proofs.Common.{subst, arith}
use Rattle.std.proofs.lemmas.Grind.{common_steps}
use Rattle.mal_text.proofs.Written.{all_words}
use Rattle.mal_text.proofs.taker.put_words.Goals as goal

pub loop-word-init : goal.loop-word-init
loop-word-init g c = g.met.T.Taker.none _

pub loop-word-preserved : goal.loop-word-preserved
loop-word-preserved g c =
    let more = g.met.T.Taker.more in
    subst (g.T.Taker.took _ _) (grind (arith, common_steps)) (more _ _ _ _ _ (more _ _ _ _ _ c.loop-word.invariant c.in_ok-put.ensures) c.in_ok-put-2.ensures)

pub returns : goal.returns
returns g c = subst (g.T.Taker.took _ _) (all_words c.args.words.now c.loop-word.word-index (omega arith)) c.loop-word.invariant
