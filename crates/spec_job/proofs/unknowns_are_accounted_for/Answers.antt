use Rattle.spec_job.proofs.UnknownExampleLemmas.{ended}
use Rattle.spec_job.proofs.UnknownLemmas.{answers-accounted_for, fed-answers_decide}
use Rattle.spec_job.proofs.unknowns_are_accounted_for.Goals as goal

pub returns : goal.returns
returns c = record { accounted = answers-accounted_for; fed = fed-answers_decide; examples = ended }
