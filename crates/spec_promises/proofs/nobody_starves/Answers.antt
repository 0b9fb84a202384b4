use Rattle.spec_promises.proofs.Volumes.{first_have_volumes}
use Rattle.spec_promises.proofs.Waiting.{nobody_starves}
use Rattle.spec_promises.proofs.nobody_starves.Goals as goal

pub returns-clause-starts : goal.returns-clause-starts
returns-clause-starts c = nobody_starves c.first_startable_is_picked.ensures.first

pub returns-clause-volumes : goal.returns-clause-volumes
returns-clause-volumes c = first_have_volumes
