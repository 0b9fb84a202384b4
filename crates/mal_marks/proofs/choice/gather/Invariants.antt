use Rattle.std.proofs.Common.{◌≡◌, map, filter, take, vec_capacity, vec_len, ◌≤◌}
use Rattle.mal_marks.specs.Choosing.{candidate_of, may_go}
use Rattle.mal_marks.proofs.choice.gather.Given as goal

abbrev pub invariant-loop-place : goal.invariant-loop-place
invariant-loop-place l = record {
  items : l.candidates.items ≡ map candidate_of (filter (may_go l.reasons) (take l.place l.marks));
  capacity : vec_capacity l.candidates ≡ vec_capacity l.fn.candidates;
  few : vec_len l.candidates ≤ l.place;
}
