use Rattle.std.proofs.Common.{◌≡◌, map, filter, take, vec_capacity, vec_len, ◌≤◌}
use Rattle.spec_learn.specs.Dropping.{may_go}
use Rattle.mal_learn.specs.Choosing.{droppable_of}
use Rattle.mal_learn.proofs.dropping.gather.Given as goal

abbrev pub invariant-loop-place : goal.invariant-loop-place
invariant-loop-place g l = record {
  droppables : l.droppables.items ≡ map droppable_of (filter (may_go (g.T.TrailView.entries l.trail)) (take l.place (g.E.ClauseView.clauses l.engine)));
  capacity : vec_capacity l.droppables ≡ vec_capacity l.fn.droppables;
  short : vec_len l.droppables ≤ l.place;
}
