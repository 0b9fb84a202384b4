use Rattle.spec_job.proofs.OnePassLemmas.{one-pass, none-before}
use Rattle.spec_job.proofs.one_pass_finds_the_exports.Goals as goal

pub returns-clause-all : goal.returns-clause-all
returns-clause-all c = one-pass

pub returns-clause-marks : goal.returns-clause-marks
returns-clause-marks c = none-before
