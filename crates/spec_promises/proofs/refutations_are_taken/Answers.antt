use Rattle.spec_promises.proofs.Examples.{taken}
use Rattle.spec_promises.proofs.Halls.{legal_is_taken, replay_is_taken, run_is_taken}
use Rattle.spec_promises.proofs.Questions.{core_is_taken, max_is_taken}
use Rattle.spec_promises.proofs.Taken.{refuted_is_taken}
use Rattle.spec_promises.proofs.refutations_are_taken.Goals as goal

pub returns-clause-claim : goal.returns-clause-claim
returns-clause-claim c = refuted_is_taken c.written_is_read.ensures

pub returns-clause-hall : goal.returns-clause-hall
returns-clause-hall c = legal_is_taken (record { read = c.written_is_read.ensures; lawful = c.legal_is_lawful.ensures.lawful })

pub returns-clause-run : goal.returns-clause-run
returns-clause-run c = run_is_taken (record { read = c.written_is_read.ensures; lawful = c.legal_is_lawful.ensures.lawful })

pub returns-clause-replay : goal.returns-clause-replay
returns-clause-replay c = replay_is_taken (record { read = c.written_is_read.ensures; lawful = c.legal_is_lawful.ensures.lawful })

pub returns-clause-optimum : goal.returns-clause-optimum
returns-clause-optimum c = max_is_taken (record { read = c.written_is_read.ensures; lawful = c.legal_is_lawful.ensures.lawful })

pub returns-clause-minimal : goal.returns-clause-minimal
returns-clause-minimal c = core_is_taken (record { read = c.written_is_read.ensures; lawful = c.legal_is_lawful.ensures.lawful })

pub returns-clause-examples : goal.returns-clause-examples
returns-clause-examples c = taken
