use Rattle.mal_pool.proofs.PoolLemmas.{all-posted}
use Rattle.mal_pool.proofs.running.post_script.Goals as goal

pub returns-clause-events : goal.returns-clause-events
returns-clause-events c = all-posted c.args.script.now c.jobs.result.now c.jobs-2.result.now c.open_all.new.hall.events c.post_all.new.hall.events c.post_all.result c.jobs.ensures.jobs c.jobs-2.ensures.jobs c.in_ok-open_all.ensures.events c.post_all.ensures.events
