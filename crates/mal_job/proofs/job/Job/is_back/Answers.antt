use Rattle.mal_job.specs.Viewed.{Parts}
use Rattle.mal_job.proofs.FinishLemmas.{back-place, place-back}
use Rattle.mal_job.proofs.job.Job.is_back.Goals as goal

pub returns : goal.returns
returns c =
    let q : Parts = record { asked = c.self.inside.questions; tree = c.self.inside.tree; log = c.self.inside.log } in
    let there = c.is_back.ensures in
    rw (← c.self.view_is) (
      λ h. place-back c.self.inside.tenant c.self.inside.name q c.args.index c.args.back.now c.self.invariant.tree c.self.invariant.solvers (there.0 h),
      λ b. there.1 (back-place c.self.inside.tenant c.self.inside.name q c.args.index c.args.back.now c.self.invariant.tree c.self.invariant.solvers b),
    )
