use Rattle.std.proofs.Common.{◌≡◌, map, take, vec_capacity}
use Rattle.mal_learn.specs.declared.dropping.Droppable.{Droppable}
use Rattle.mal_learn.proofs.dropping.take_longer_half.Given as goal

abbrev pub invariant-loop-place : goal.invariant-loop-place
invariant-loop-place l = record {
  chosen : l.chosen.items ≡ map (λ (c : Droppable). c.id) (take l.place l.droppables.items);
  capacity : vec_capacity l.chosen ≡ vec_capacity l.fn.chosen;
}
