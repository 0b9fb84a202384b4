use Rattle.std.proofs.Common.{◌≡◌, ℕ, ◌≤◌, List, Option}
use Rattle.mal_base.specs.declared.key.Key.{Key}
use Rattle.mal_live.specs.Telling.{Tells, told_at}
use Rattle.mal_serve.specs.Finishing.{untold}
use Rattle.mal_serve.proofs.finishing.tell_job.Given as goal

abbrev pub invariant-loop : goal.invariant-loop
invariant-loop g l = record {
  told : (log_first log_now out_first : Option (List ℕ)) → Tells l.hall.workers l.hall.events l.fn.teller log_first log_now out_first (g.K.Sink.got l.fn.out) → Tells l.hall.workers l.hall.events l.teller log_first log_now out_first (g.K.Sink.got l.out);
  more : (k : Key) → told_at l.fn.teller k ≤ told_at l.teller k;
  counted : g.K.Sink.faults l.out ≡ g.K.Sink.faults l.fn.out;
}

abbrev pub decreases-loop : goal.decreases-loop
decreases-loop g l = untold l.hall.events l.teller l.key
