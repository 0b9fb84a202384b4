use Rattle.std.proofs.Common.{arith}
use Rattle.spec_script.specs.Script.{spelling}
use Rattle.mal_script.proofs.Texts.{script_written}
use Rattle.mal_script.proofs.writing.write.Goals as goal

pub returns : goal.returns
unfolding spelling
returns c = script_written c.loop-job.out.items c.args.script.now c.jobs-jobs.result.now c.loop-job.job-index c.jobs-jobs.ensures.jobs (omega arith) c.loop-job.invariant
