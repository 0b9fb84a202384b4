use Rattle.std.proofs.Common.{◌≡◌, length}
use Rattle.mal_pool.specs.Refusals.{IsOneRefused}
use Rattle.mal_pool.specs.Runs.{left_by, posted_on, posts_in}
use Rattle.mal_posts.specs.Dues.{due}
use Rattle.mal_pool.proofs.leaving.post_from.Given as goal

abbrev pub invariant-loop-due : goal.invariant-loop-due
invariant-loop-due l = record {
  workers : l.hall.workers ≡ l.fn.hall.workers;
  events : posted_on l.hall.events (posts_in (due l.cursor)) ≡ posted_on l.fn.hall.events (left_by l.fn.jobs l.fn.left);
  refused : IsOneRefused l.hall.workers l.hall.events (posts_in (due l.cursor)) → IsOneRefused l.fn.hall.workers l.fn.hall.events (left_by l.fn.jobs l.fn.left);
}

abbrev pub decreases-loop-due : goal.decreases-loop-due
decreases-loop-due l = length (due l.cursor)
