use Rattle.mal_turn.specs.Tokens.{view}
use Rattle.mal_hall.specs.Offered.{returned}
use Rattle.mal_pool.proofs.CallLemmas.{given_calls}
use Rattle.mal_pool.proofs.served.ServedDesk.finish.Goals as goal

pub returns-clause-calls : goal.returns-clause-calls
returns-clause-calls g c = given_calls g.S.Size.workers (view c.args.pass) (view c.give-pass.result.0) c.args.back (returned c.give-pass.result.1) c.give-pass.ensures.entry
