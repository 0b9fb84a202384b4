use Rattle.std.proofs.Common.{◌≡◌, take}
use Rattle.spec_run.specs.Complete.{open_events}
use Rattle.mal_pool.proofs.running.open_all.Given as goal

abbrev pub invariant-loop-job : goal.invariant-loop-job
invariant-loop-job l =
    record {
      workers : l.hall.workers ≡ l.fn.hall.workers;
      events : l.hall.events ≡ open_events (take l.job-index l.jobs);
    }
