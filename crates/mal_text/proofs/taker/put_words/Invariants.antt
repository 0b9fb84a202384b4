use Rattle.std.proofs.Common.{◌∷◌, flat_map, take}
use Rattle.mal_text.proofs.taker.put_words.Given as goal

abbrev pub invariant-loop-word : goal.invariant-loop-word
invariant-loop-word g l = g.T.Taker.took l.fn.out l.out (flat_map (λ w. 32 ∷ w.now) (take l.word-index l.words))
