use Rattle.std.proofs.Common.{arith}
use Rattle.mal_watch.proofs.FollowLemmas.{follows-more}
use Rattle.mal_watch.proofs.watcher.WatcherEngine.reserve.Goals as goal

pub returns-in_err-reserve-2-clause-fits : goal.returns-in_err-reserve-2-clause-fits
returns-in_err-reserve-2-clause-fits c =
    let s = c.args.self.now in
    λ entries processed f. rw (c.reserve.ensures.clauses, c.reserve.ensures.long, c.reserve-2.ensures.keys, c.reserve-2.ensures.out) (follows-more s.store.clauses s.store.long s.lists.keys s.lists.out s.lists.count _ _ _ entries processed c.reserve-2.ensures.more_lists f.room f)

pub returns-clause-fits : goal.returns-clause-fits
returns-clause-fits c =
    let s = c.args.self.now in
    λ entries processed f. rw (c.reserve.ensures.clauses, c.reserve.ensures.long, c.reserve-2.ensures.keys, c.reserve-2.ensures.out) (follows-more s.store.clauses s.store.long s.lists.keys s.lists.out s.lists.count _ _ _ entries processed c.reserve-2.ensures.more_lists (omega (arith, f.room, c.clear.ensures.capacity, c.reserve-3.ensures.capacity)) f)
