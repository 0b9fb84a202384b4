use Rattle.std.proofs.Common.{◌≡◌, ◌∷◌, ◌++◌, flat_map, take}
use Rattle.spec_text.specs.Numbers.{literal_word}
use Rattle.mal_lrat.proofs.writing.append_lits.Given as goal

abbrev pub invariant-loop-lit : goal.invariant-loop-lit
invariant-loop-lit l = l.out.items ≡ l.fn.out.items ++ flat_map (λ x. 32 ∷ literal_word x) (take l.lit-index l.lits)
