use Rattle.std.proofs.Common.{drop}
use Rattle.spec_proof.specs.Trimmed.{is_needed, reached_in, ids_of}
use Rattle.mal_proof.specs.Marks.{AreMarks}
use Rattle.mal_proof.proofs.trim.mark_needed.Given as goal

abbrev pub invariant-loop-n : goal.invariant-loop-n
invariant-loop-n l = AreMarks (is_needed l.fn.goal (reached_in l.fn.goal (drop l.n l.lines))) (ids_of l.lines) l.marks
