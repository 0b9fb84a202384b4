use Rattle.mal_turn.specs.Tokens.{view}
use Rattle.mal_pool.proofs.CallLemmas.{both_calls, one_calls}
use Rattle.mal_pool.proofs.served.ServedBoard.join.Goals as goal

pub returns-clause-one : goal.returns-clause-one
returns-clause-one g c = one_calls (view c.args.pass) (view c.args.other) (view c.join.result) c.join.ensures.numbers c.join.ensures.one

pub returns-clause-both : goal.returns-clause-both
returns-clause-both g c = both_calls (view c.args.pass) (view c.args.other) (view c.join.result) c.join.ensures.numbers c.join.ensures.other
