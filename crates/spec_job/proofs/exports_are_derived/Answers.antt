use Rattle.spec_job.proofs.ExportedExampleLemmas.{unexported-known}
use Rattle.spec_job.proofs.ExportedLemmas.{exchanges-tell_derived, exports-are_derived}
use Rattle.spec_job.proofs.exports_are_derived.Goals as goal

pub returns : goal.returns
returns c = record { exports = exports-are_derived; exchanges = exchanges-tell_derived; examples = unexported-known }
