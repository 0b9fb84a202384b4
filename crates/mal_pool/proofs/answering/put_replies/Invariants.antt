use Rattle.std.proofs.Common.{◌≡◌, ◌++◌, take}
use Rattle.spec_job.specs.SoloMachine.{solo}
use Rattle.spec_hall.specs.Own.{own}
use Rattle.spec_run.specs.Complete.{key_of_job}
use Rattle.spec_run.specs.Run.{replies_from}
use Rattle.spec_script.specs.Script.{revisions}
use Rattle.mal_pool.proofs.answering.put_replies.Given as goal

abbrev pub invariant-loop-posted : goal.invariant-loop-posted
invariant-loop-posted l = l.text.items ≡ l.fn.text.items ++ replies_from (key_of_job l.job) 1 (solo (own (key_of_job l.job) l.hall.events)) (take l.posted (revisions l.job))
