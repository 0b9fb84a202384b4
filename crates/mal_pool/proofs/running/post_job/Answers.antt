use Rattle.std.proofs.Common.{◌≡◌, ◌++◌, List, refl, sym, ◌∙◌, ap, subst}
use Rattle.mal_pool.proofs.PoolLemmas.{job-legal}
use Rattle.mal_pool.proofs.Postings.{due-others}
use Rattle.mal_posts.specs.Dues.{due}
use Rattle.spec_hall.specs.Events.{Event}
use Rattle.spec_hall.specs.Legal.{LegalFrom}
use Rattle.spec_run.specs.Complete.{job_events}
use Rattle.mal_pool.proofs.running.post_job.Goals as goal

pub loop-due-init : goal.loop-due-init
loop-due-init c =
    let all : due c.of_job-cursor.result ≡ job_events c.args.job.now = due-others c.of_job-cursor.result c.of_job-cursor.ensures.openings ∙ c.of_job-cursor.ensures.others in
    record {
      workers = refl;
      events = ap (λ (es : List Event). c.args.hall.now.events ++ es) all;
      legal = subst (LegalFrom c.args.hall.now.workers c.args.hall.now.events) (sym all) (job-legal c.args.hall.now.workers c.args.hall.now.events c.args.job.now c.requires.opened c.requires.formed);
    }
