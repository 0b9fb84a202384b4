use Rattle.spec_script.proofs.Assumed.{assumptions_are_read}
use Rattle.spec_script.proofs.Words.{ask_is_read, job_is_admitted, revision_is_read, tenant_is_read, weight_is_read}
use Rattle.spec_script.proofs.words_are_read.Goals as goal

pub returns : goal.returns
returns c = record { ask = ask_is_read; weight = weight_is_read; tenant = tenant_is_read; job = job_is_admitted; assumptions = assumptions_are_read; revision = revision_is_read }
