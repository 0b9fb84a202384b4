use Rattle.std.proofs.Common.{◌≡◌, map, take, vec_capacity}
use Rattle.mal_marks.specs.declared.choice.Candidate.{Candidate}
use Rattle.mal_marks.proofs.choice.take_less_active_half.Given as goal

abbrev pub invariant-loop-place : goal.invariant-loop-place
invariant-loop-place l = record {
  chosen : l.chosen.items ≡ map (λ (c : Candidate). c.id) (take l.place l.candidates.items);
  capacity : vec_capacity l.chosen ≡ vec_capacity l.fn.chosen;
}
