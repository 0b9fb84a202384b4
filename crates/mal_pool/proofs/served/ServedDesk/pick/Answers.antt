use Rattle.mal_turn.specs.Tokens.{view}
use Rattle.mal_hall.specs.Offered.{offered}
use Rattle.mal_pool.proofs.CallLemmas.{picked_calls, picked_is_own}
use Rattle.mal_pool.proofs.served.ServedDesk.pick.Goals as goal

pub returns-clause-calls : goal.returns-clause-calls
returns-clause-calls g c = picked_calls g.S.Size.workers (view c.args.pass) (view c.pick-pass.result.0) c.args.worker (offered c.pick-pass.result.1) c.pick-pass.ensures.entry

pub returns-clause-own : goal.returns-clause-own
returns-clause-own g c = picked_is_own g.S.Size.workers (view c.args.pass) (view c.pick-pass.result.0) c.args.worker (offered c.pick-pass.result.1) c.pick-pass.ensures.entry
