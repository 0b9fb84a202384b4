use Rattle.std.proofs.Common.{◌≡◌, ℕ, List, Option, map, take}
use Rattle.std.specs.Prelude.{All}
use Rattle.mal_live.specs.Telling.{Tells}
use Rattle.mal_serve.specs.Finishing.{HasToldOpened}
use Rattle.spec_hall.specs.Events.{bare}
use Rattle.mal_serve.proofs.finishing.tell_jobs.Given as goal

abbrev pub invariant-loop-event : goal.invariant-loop-event
invariant-loop-event g l = record {
  told : (log_first log_now out_first : Option (List ℕ)) → Tells l.hall.workers l.hall.events l.fn.teller log_first log_now out_first (g.K.Sink.got l.fn.out) → Tells l.hall.workers l.hall.events l.teller log_first log_now out_first (g.K.Sink.got l.out);
  done : All (HasToldOpened l.hall.events l.teller) (take l.event-index (map bare l.hall.events));
  counted : g.K.Sink.faults l.out ≡ g.K.Sink.faults l.fn.out;
}
