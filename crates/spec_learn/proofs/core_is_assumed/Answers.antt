use Rattle.spec_learn.proofs.CoreClauseLemmas.{sound-reason, core-clause}
use Rattle.spec_learn.proofs.core_is_assumed.Goals as goal

pub returns : goal.returns
returns c = record { reason = sound-reason; core = core-clause }
