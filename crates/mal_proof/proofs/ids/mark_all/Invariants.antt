use Rattle.std.proofs.Common.{ℕ, Bool, ◌||◌, ◌==◌, take}
use Rattle.std.specs.List.{list_any}
use Rattle.mal_proof.specs.Marks.{AreMarks}
use Rattle.mal_proof.proofs.ids.mark_all.Given as goal

abbrev pub invariant-loop-id : goal.invariant-loop-id
invariant-loop-id l = (test : ℕ → Bool) → AreMarks test l.ids l.fn.marks → AreMarks (λ i. test i || list_any (λ id. id == i) (take l.id-index l.more)) l.ids l.marks
