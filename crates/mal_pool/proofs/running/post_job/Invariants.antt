use Rattle.std.proofs.Common.{◌≡◌, ◌++◌, length}
use Rattle.mal_posts.specs.Dues.{due}
use Rattle.spec_hall.specs.Legal.{LegalFrom}
use Rattle.spec_run.specs.Complete.{job_events}
use Rattle.mal_pool.proofs.running.post_job.Given as goal

abbrev pub invariant-loop-due : goal.invariant-loop-due
invariant-loop-due l = record {
  workers : l.hall.workers ≡ l.fn.hall.workers;
  events : l.hall.events ++ due l.cursor ≡ l.fn.hall.events ++ job_events l.fn.job;
  legal : LegalFrom l.hall.workers l.hall.events (due l.cursor);
}

abbrev pub decreases-loop-due : goal.decreases-loop-due
decreases-loop-due l = length (due l.cursor)
