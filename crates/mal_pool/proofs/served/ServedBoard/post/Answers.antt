use Rattle.mal_turn.specs.Tokens.{view}
use Rattle.mal_pool.proofs.CallLemmas.{posted_calls}
use Rattle.mal_pool.proofs.served.ServedBoard.post.Goals as goal

pub returns-clause-calls : goal.returns-clause-calls
returns-clause-calls g c = posted_calls g.S.Size.workers (view c.args.pass) (view c.post-pass.result.0) c.args.post c.post-pass.result.1 c.post-pass.ensures.entry
