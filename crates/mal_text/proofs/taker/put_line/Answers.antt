use Rattle.std.proofs.Common.{map, subst}
use Rattle.mal_text.proofs.Written.{line_by_word}
use Rattle.mal_text.proofs.taker.put_line.Goals as goal

pub returns : goal.returns
returns g c =
    let more = g.met.T.Taker.more in
    subst (g.T.Taker.took _ _) (line_by_word c.args.first.now (map (λ w. w.now) c.args.others.now)) (more _ _ _ _ _ (more _ _ _ _ _ c.in_ok-put.ensures c.in_ok-put_words.ensures) c.in_ok-put-2.ensures)
