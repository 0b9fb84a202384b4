use Rattle.std.proofs.Common.{◌≡◌, ◌++◌, take, flat_map}
use Rattle.spec_run.specs.Complete.{job_events}
use Rattle.mal_pool.proofs.running.post_all.Given as goal

abbrev pub invariant-loop-job : goal.invariant-loop-job
invariant-loop-job l =
    record {
      workers : l.hall.workers ≡ l.fn.hall.workers;
      events : l.hall.events ≡ l.fn.hall.events ++ flat_map job_events (take l.job-index l.jobs);
    }
