use Rattle.std.proofs.Common.{◌≡◌, ◌+◌, ◌∷◌, ◌++◌, drop}
use Rattle.mal_report.proofs.Models.{spaced_from}
use Rattle.mal_report.proofs.replies.put_model.Given as goal

abbrev pub invariant-loop-value : goal.invariant-loop-value
invariant-loop-value l = (l.number ≡ l.value-index) × (l.out.items ++ spaced_from (l.number + 1) (drop l.value-index l.model) ≡ l.fn.out.items ++ 118 ∷ spaced_from 1 l.model)
