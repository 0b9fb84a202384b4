use Rattle.std.proofs.Common.{◌≡◌, take}
use Rattle.std.specs.List.{filter_map}
use Rattle.std.specs.Option.{option_map}
use Rattle.mal_pool.proofs.run.left_of.Given as goal

abbrev pub invariant-loop-one : goal.invariant-loop-one
invariant-loop-one g l = l.left.items ≡ filter_map (λ x. option_map (λ h. h.left) x.hindered) (take l.one-index l.played)
