use Rattle.spec_run.proofs.PostingLemmas.{posting-formed}
use Rattle.mal_pool.proofs.PoolLemmas.{known-at}
use Rattle.mal_pool.proofs.answering.put_at.Goals as goal

pub put_replies-requires-clause-few : goal.put_replies-requires-clause-few
put_replies-requires-clause-few c =
    (posting-formed c.args.script.now.jobs c.args.place c.index-jobs-place.result c.jobs.ensures.formed c.requires.place (rw c.jobs.ensures.jobs at c.index-jobs-place.is)).few

pub put_replies-requires-clause-known : goal.put_replies-requires-clause-known
put_replies-requires-clause-known c =
    known-at c.args.hall.now.events c.args.script.now.jobs c.args.place c.index-jobs-place.result c.requires.run.1.known c.requires.place (rw c.jobs.ensures.jobs at c.index-jobs-place.is)
