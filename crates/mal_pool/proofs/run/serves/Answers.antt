use Rattle.mal_pool.proofs.RunLosses.{lost-asked}
use Rattle.mal_pool.proofs.run.serves.Goals as goal

pub returns-clause-lost : goal.returns-clause-lost
returns-clause-lost c = lost-asked c.has_posts.result c.args.hall.now.events c.history.result.now.events c.args.stopped c.has_lost_unasked.result c.history.ensures.events c.has_lost_unasked.ensures c.if-has_lost_unasked.false
