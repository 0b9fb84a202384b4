use Rattle.std.proofs.Common.{[], None, refl, arith}
use Rattle.std.specs.Prelude.{ℕ, ◌<◌}
use Rattle.std.proofs.lemmas.List.Elements.{All-nil}
use Rattle.mal_watch.proofs.LinkedLemmas.{idle}
use Rattle.mal_watch.proofs.ListedLemmas.{none-linked}
use Rattle.mal_watch.proofs.watch_lists.WatchLists.new.Goals as goal

pub invariant_of-result : goal.invariant_of-result
invariant_of-result c = rw (c.new.ensures.items, c.new-2.ensures.items, c.none.ensures) (none-linked 0, idle [] _ None _ refl, record { few = omega arith; below = All-nil (λ (k : ℕ). k < 0) })
