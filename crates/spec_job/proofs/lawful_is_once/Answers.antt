use Rattle.spec_job.proofs.LawfulLemmas.{lawful-is_once, lawful-runnable}
use Rattle.spec_job.proofs.lawful_is_once.Goals as goal

pub returns : goal.returns
returns c = record { once = lawful-is_once; runnable = lawful-runnable }
