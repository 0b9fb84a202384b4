use Rattle.std.proofs.Common.{◌≡◌, ◌∷◌, ◌++◌, flat_map, take}
use Rattle.spec_text.specs.Numbers.{decimal_word}
use Rattle.mal_lrat.proofs.writing.put_ids.Given as goal

abbrev pub invariant-loop-id : goal.invariant-loop-id
invariant-loop-id l = l.out.items ≡ l.fn.out.items ++ flat_map (λ x. 32 ∷ decimal_word x) (take l.id-index l.ids)
