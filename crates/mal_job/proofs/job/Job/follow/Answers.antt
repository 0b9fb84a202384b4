use Rattle.std.proofs.Common.{◌≡◌, true, ◌∙◌, ap}
use Rattle.std.specs.Prelude.{is_some}
use Rattle.mal_base.specs.declared.verdict.Outcome.TheVariants.{Ran}
use Rattle.spec_job.specs.SoloMachine.{Finished}
use Rattle.spec_job.specs.Viewed.{JobView, and_own}
use Rattle.mal_job.specs.Finishing.{MayFollow}
use Rattle.mal_job.specs.Placing.{placed}
use Rattle.mal_job.specs.Viewed.{Parts, viewed}
use Rattle.mal_job.proofs.FinishLemmas.{Ended, follow-out, live, few-ran, chunk, countable, orderly, follow-told, follow-fits, ran-ended}
use Rattle.mal_job.proofs.Parts.{parts}
use Rattle.mal_job.proofs.job.Job.follow.Goals as goal
use Rattle.mal_job.proofs.job.Job.follow.Goals.{After-finish_run}

pub finish_run-requires-clause-out : goal.finish_run-requires-clause-out
finish_run-requires-clause-out c = follow-out c.self.inside.tenant c.self.inside.name (parts c.self.inside) c.args.index c.args.lines.lines c.args.answer (rw (← c.self.view_is) at c.requires)

pub finish_run-requires-clause-few : goal.finish_run-requires-clause-few
finish_run-requires-clause-few c =
    let q : Parts = parts c.self.inside in
    let m : MayFollow (viewed c.self.inside.tenant c.self.inside.name q) c.args.index c.args.lines.lines c.args.answer = rw (← c.self.view_is) at c.requires in
    few-ran q c.args.index c.self.invariant (follow-out c.self.inside.tenant c.self.inside.name q c.args.index c.args.lines.lines c.args.answer m)

pub finish_run-requires-clause-live : goal.finish_run-requires-clause-live
finish_run-requires-clause-live c =
    let q : Parts = parts c.self.inside in
    let m : MayFollow (viewed c.self.inside.tenant c.self.inside.name q) c.args.index c.args.lines.lines c.args.answer = rw (← c.self.view_is) at c.requires in
    live q c.args.index c.self.invariant (follow-out c.self.inside.tenant c.self.inside.name q c.args.index c.args.lines.lines c.args.answer m)

pub finish_run-requires-clause-log : goal.finish_run-requires-clause-log
finish_run-requires-clause-log c =
    let q : Parts = parts c.self.inside in
    let m : MayFollow (viewed c.self.inside.tenant c.self.inside.name q) c.args.index c.args.lines.lines c.args.answer = rw (← c.self.view_is) at c.requires in
    let out : is_some (placed q.tree c.args.index).out ≡ true = follow-out c.self.inside.tenant c.self.inside.name q c.args.index c.args.lines.lines c.args.answer m in
    let told = follow-told q c.args.index c.self.invariant out c.self.inside.tenant c.self.inside.name c.args.lines.lines c.args.answer m in
    record { room = chunk q c.args.index c.self.invariant out; countable = countable q c.args.index c.self.invariant out c.args.lines.lines told; orderly = orderly q c.args.index c.self.invariant out c.args.lines.lines told }

ended : (c : After-finish_run) → Ended c.self.inside.tenant c.self.inside.name (parts c.self.inside) (record { asked = c.finish_run.new.questions; tree = c.finish_run.new.tree; log = c.finish_run.new.log }) c.args.index Ran
ended c =
    let q : Parts = parts c.self.inside in
    let m : MayFollow (viewed c.self.inside.tenant c.self.inside.name q) c.args.index c.args.lines.lines c.args.answer = rw (← c.self.view_is) at c.requires in
    let out : is_some (placed q.tree c.args.index).out ≡ true = follow-out c.self.inside.tenant c.self.inside.name q c.args.index c.args.lines.lines c.args.answer m in
    let told = follow-told q c.args.index c.self.invariant out c.self.inside.tenant c.self.inside.name c.args.lines.lines c.args.answer m in
    let fits = follow-fits q c.args.index c.self.invariant out c.self.inside.tenant c.self.inside.name c.args.lines.lines c.args.answer m in
    let e = c.finish_run.ensures in
    ran-ended q c.args.index c.self.invariant out c.args.lines.lines c.args.answer told fits c.finish_run.new.questions c.finish_run.new.tree c.finish_run.new.log e.questions e.tree e.log e.slices e.less c.self.inside.tenant c.self.inside.name e.asked e.kept

pub invariant_of-self : goal.invariant_of-self
invariant_of-self c = (ended c).kept

pub returns-in-Ok-clause-ok : goal.returns-in-Ok-clause-ok
returns-in-Ok-clause-ok c = (ended c).view ∙ ap (λ (v : JobView). and_own v (Finished c.args.index Ran)) c.self.view_is
