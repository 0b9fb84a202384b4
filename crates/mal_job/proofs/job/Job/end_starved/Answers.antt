use Rattle.std.proofs.Common.{◌≡◌, true, ◌∙◌, ap}
use Rattle.std.specs.Prelude.{is_some}
use Rattle.mal_base.specs.declared.verdict.Outcome.TheVariants.{Starved}
use Rattle.spec_job.specs.SoloMachine.{Finished}
use Rattle.spec_job.specs.Viewed.{JobView, and_own}
use Rattle.mal_job.specs.Placing.{IsBackAt, placed}
use Rattle.mal_job.specs.Viewed.{Parts}
use Rattle.mal_job.proofs.FinishLemmas.{Ended, back-out, back-place, back-starved, live, starved-step, home-ended}
use Rattle.mal_job.proofs.Parts.{parts}
use Rattle.mal_job.proofs.job.Job.end_starved.Goals as goal
use Rattle.mal_job.proofs.job.Job.end_starved.Goals.{After-finish_starved}

pub finish_starved-requires : goal.finish_starved-requires
finish_starved-requires c =
    let q : Parts = parts c.self.inside in
    let b : IsBackAt (placed q.tree c.args.index) c.args.back = back-place c.self.inside.tenant c.self.inside.name q c.args.index c.args.back c.self.invariant.tree c.self.invariant.solvers (rw (← c.self.view_is) at c.requires.back) in
    let out : is_some (placed q.tree c.args.index).out ≡ true = back-out (placed q.tree c.args.index) c.args.back b in
    record { out = out; own = c.into_kept.ensures.journal ∙ back-starved (placed q.tree c.args.index) c.args.back c.requires.starved b; live = live q c.args.index c.self.invariant out }

ended : (c : After-finish_starved) → Ended c.self.inside.tenant c.self.inside.name (parts c.self.inside) (record { asked = c.finish_starved.new.questions; tree = c.finish_starved.new.tree; log = c.self.inside.log }) c.args.index Starved
ended c =
    let q : Parts = parts c.self.inside in
    let out : is_some (placed q.tree c.args.index).out ≡ true = back-out (placed q.tree c.args.index) c.args.back (back-place c.self.inside.tenant c.self.inside.name q c.args.index c.args.back c.self.invariant.tree c.self.invariant.solvers (rw (← c.self.view_is) at c.requires.back)) in
    home-ended q c.args.index c.self.invariant out Starved _ _ c.finish_starved.ensures.tree (starved-step q c.args.index c.self.invariant out _ c.finish_starved.ensures.questions) _ _ c.finish_starved.ensures.asked c.finish_starved.ensures.kept

pub invariant_of-self : goal.invariant_of-self
invariant_of-self c = (ended c).kept

pub returns : goal.returns
returns c = (ended c).view ∙ ap (λ (v : JobView). and_own v (Finished c.args.index Starved)) c.self.view_is
