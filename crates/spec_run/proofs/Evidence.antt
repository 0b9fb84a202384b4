use Rattle.std.specs.Prelude.{ℕ, List}
use Rattle.spec_job.specs.KeyedJob.{Key}
use Rattle.spec_hall.specs.Events.{Event}
use Rattle.spec_hall.specs.Own.{own}
use Rattle.spec_hall.specs.Legal.{Legal}
use Rattle.spec_hall.proofs.OpenedLemmas.{legal-answers_accounted_for, legal-fed_answers_decide}
use Rattle.spec_hall.proofs.RunnableLemmas.{legal-answers_refute, legal-answers_solve}
use Rattle.spec_run.specs.Run.{IsEvident}

-- in a legal history the answers of each job are evidence
pub evident_by_law : (workers : ℕ) (history : List Event) → Legal workers history → (k : Key) → IsEvident (own k history)
evident_by_law w h legal k = record { models = legal-answers_solve w h legal k; proofs = legal-answers_refute w h legal k; unknowns = legal-answers_accounted_for w h legal k; decided = legal-fed_answers_decide w h legal k }
