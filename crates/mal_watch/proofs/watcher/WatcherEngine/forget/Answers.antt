use Rattle.std.proofs.Common.{◌≤◌, length, sym, ◌∙◌, arith}
use Rattle.mal_store.specs.Arena.{is_left}
use Rattle.mal_store.proofs.ForgetLemmas.{forgetting-order}
use Rattle.mal_watch.proofs.FewerLemmas.{follows-fewer, fewer-length}
use Rattle.mal_watch.proofs.watcher.WatcherEngine.forget.Goals as goal

pub returns-clause-clauses : goal.returns-clause-clauses
returns-clause-clauses c = c.forget-2.ensures.clauses ∙ sym (forgetting-order c.args.ids.now c.sort_ids.new.ids c.sort_ids.ensures.same c.args.self.now.store.clauses)

pub returns-clause-fits : goal.returns-clause-fits
returns-clause-fits c =
    let s = c.args.self.now in
    λ entries processed f. rw (c.forget.ensures.keys, c.forget.ensures.out, c.forget.ensures.lists, c.forget-2.ensures.clauses, c.forget-2.ensures.long) (follows-fewer c.sort_ids.new.ids s.store.clauses s.store.long s.lists.keys s.lists.out s.lists.count _ entries processed f)

pub returns-clause-room : goal.returns-clause-room
returns-clause-room c =
    let s = c.args.self.now in
    let now : length c.forget-2.new.self.long ≤ length s.store.long = rw c.forget-2.ensures.long (fewer-length (is_left c.sort_ids.new.ids) s.store.long) in
    record {
      variables = omega (arith, c.forget.ensures.lists);
      clauses = omega (arith, now, c.forget-2.ensures.clause_room, c.forget.ensures.room);
      literals = omega (arith, c.forget-2.ensures.literal_room);
    }
