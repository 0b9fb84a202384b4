use Rattle.std.proofs.Common.{◌≡◌, map, drop}
use Rattle.std.specs.List.{list_any}
use Rattle.std.specs.Str.{bytes_eq}
use Rattle.mal_instance.proofs.formula.is_among.Given as goal

abbrev pub invariant-loop-word : goal.invariant-loop-word
invariant-loop-word l = list_any (bytes_eq l.fn.first) (map (λ w. w.now) (drop l.word-index l.fn.words)) ≡ list_any (bytes_eq l.fn.first) (map (λ w. w.now) l.fn.words)
