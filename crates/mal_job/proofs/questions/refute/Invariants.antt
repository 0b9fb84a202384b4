use Rattle.std.proofs.Common.{◌≡◌, ◌++◌, replicate, vec_capacity}
use Rattle.mal_base.specs.declared.answer.Answer.TheVariants.{Refuted}
use Rattle.mal_job.proofs.questions.refute.Given as goal

abbrev pub invariant-loop-made : goal.invariant-loop-made
invariant-loop-made l =
    record {
      answered : l.answers.items ≡ l.fn.answers.items ++ replicate l._made (Refuted l.goal);
      room : vec_capacity l.answers ≡ vec_capacity l.fn.answers;
    }
