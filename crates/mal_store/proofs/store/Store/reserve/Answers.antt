use Rattle.std.proofs.Common.{◌+◌, ◌-◌, ◌≤◌, Result, Ok, Err, arith}
use Rattle.std.specs.Prelude.{OnOk}
use Rattle.mal_store.specs.Arena.{listed_count}
use Rattle.mal_store.specs.Stored.{held_in, literal_count}
use Rattle.mal_store.proofs.HeldLemmas.{held-length}
use Rattle.mal_store.proofs.CountLemmas.{count-listed}
use Rattle.mal_store.proofs.store.Store.reserve.Goals as goal

-- where there is room, there is more
on_ok : {A B : Type 0} (r : Result A B) (P Q : Type 0) → (P → Q) → OnOk r P → OnOk r Q
on_ok (Ok x) P Q f p = f p
on_ok (Err x) P Q f p = tt

pub returns-clause-for_literals : goal.returns-clause-for_literals
returns-clause-for_literals c =
    let s = c.self.inside in
    let long = s.long.clauses in
    let es = s.index.entries in
    rw (c.reserve-3.ensures.clauses, c.reserve.ensures.entries) (on_ok c.reserve-3.result (c.in_ok-total.total ≤ c.reserve-3.new.self.literal_room) (c.args.literals ≤ listed_count long + c.reserve-3.new.self.literal_room - literal_count (held_in long es)) (λ l. omega (arith, l, c.len-held.ensures, c.in_ok-twice.ensures.sum, c.in_ok-beside.ensures.sum, c.in_ok-total.ensures.sum, held-length long es, count-listed long (held_in long es) c.self.invariant.once)) c.reserve-3.ensures.for_literals)
