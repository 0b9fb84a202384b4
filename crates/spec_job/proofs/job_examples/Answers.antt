use Rattle.spec_job.proofs.ExampleLemmas.{examples, exchanges, reasked, refutations, runnable}
use Rattle.spec_job.proofs.ProfileExampleLemmas.{profiles}
use Rattle.spec_job.proofs.job_examples.Goals as goal

pub returns : goal.returns
returns c = record { machines = examples; refutations = refutations; exchanges = exchanges; reasked = reasked; runnable = runnable; profiles = profiles }
