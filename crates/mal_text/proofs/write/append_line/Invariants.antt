use Rattle.std.proofs.Common.{◌≡◌, ◌∷◌, ◌++◌, flat_map, take}
use Rattle.mal_text.proofs.write.append_line.Given as goal

abbrev pub invariant-loop-word : goal.invariant-loop-word
invariant-loop-word l = l.out.items ≡ l.fn.out.items ++ (l.first ++ flat_map (λ w. 32 ∷ w.now) (take l.word-index l.others))
