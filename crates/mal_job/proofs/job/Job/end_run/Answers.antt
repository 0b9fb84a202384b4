use Rattle.std.proofs.Common.{◌≡◌, true, Bool, List, Option, ◌∙◌, ap, subst}
use Rattle.std.specs.Prelude.{is_some}
use Rattle.mal_base.specs.declared.verdict.Outcome.{Outcome}
use Rattle.mal_base.specs.declared.verdict.Verdict.{Verdict}
use Rattle.mal_base.specs.declared.verdict.Outcome.TheVariants.{Ran}
use Rattle.spec_job.specs.Leased.{HasRun, Tells}
use Rattle.spec_job.specs.SoloMachine.{Finished}
use Rattle.spec_job.specs.Viewed.{JobView, and_own}
use Rattle.mal_job.specs.Asking.{answer_with}
use Rattle.mal_job.specs.Placing.{IsBackAt, placed}
use Rattle.mal_job.specs.Viewed.{Parts}
use Rattle.mal_job.proofs.FinishLemmas.{Ended, back-out, back-place, back-ran, live, few-ran, chunk, lines-is, answer-is, countable, orderly, ran-ended}
use Rattle.mal_job.proofs.Parts.{parts}
use Rattle.mal_job.proofs.job.Job.end_run.Goals as goal
use Rattle.mal_job.proofs.job.Job.end_run.Goals.{After-finish_run}

pub finish_run-requires : goal.finish_run-requires
finish_run-requires c =
    let q : Parts = parts c.self.inside in
    let b : IsBackAt (placed q.tree c.args.index) c.args.back = back-place c.self.inside.tenant c.self.inside.name q c.args.index c.args.back c.self.invariant.tree c.self.invariant.solvers (rw (← c.self.view_is) at c.requires.back) in
    let out : is_some (placed q.tree c.args.index).out ≡ true = back-out (placed q.tree c.args.index) c.args.back b in
    let e = back-ran (placed q.tree c.args.index) c.args.back c.requires.ran b in
    let h : HasRun c.args.back = subst (λ (o : Outcome). Tells o c.args.back) c.requires.ran c.into_parts-kept.ensures.tells in
    let told = c.into_parts-kept.ensures.lines ∙ lines-is q c.args.index c.self.invariant out c.args.back e h in
    record {
      out = out;
      back = c.into_parts-kept.ensures.journal ∙ e;
      few = few-ran q c.args.index c.self.invariant out;
      live = live q c.args.index c.self.invariant out;
      log = record { room = chunk q c.args.index c.self.invariant out; countable = countable q c.args.index c.self.invariant out _ told; orderly = orderly q c.args.index c.self.invariant out _ told };
    }

ended : (c : After-finish_run) → Ended c.self.inside.tenant c.self.inside.name (parts c.self.inside) (record { asked = c.finish_run.new.questions; tree = c.finish_run.new.tree; log = c.finish_run.new.log }) c.args.index Ran
ended c =
    let q : Parts = parts c.self.inside in
    let b : IsBackAt (placed q.tree c.args.index) c.args.back = back-place c.self.inside.tenant c.self.inside.name q c.args.index c.args.back c.self.invariant.tree c.self.invariant.solvers (rw (← c.self.view_is) at c.requires.back) in
    let out : is_some (placed q.tree c.args.index).out ≡ true = back-out (placed q.tree c.args.index) c.args.back b in
    let r = back-ran (placed q.tree c.args.index) c.args.back c.requires.ran b in
    let h : HasRun c.args.back = subst (λ (o : Outcome). Tells o c.args.back) c.requires.ran c.into_parts-kept.ensures.tells in
    let told = c.into_parts-kept.ensures.lines ∙ lines-is q c.args.index c.self.invariant out c.args.back r h in
    let answer = c.answer_of.ensures ∙ (ap (λ (v : Option Verdict). answer_with v c.into_parts-kept.result.2) c.verdict-verdict.ensures.value ∙ (ap (λ (m : List Bool). answer_with c.args.back.verdict m) c.into_parts-kept.ensures.model ∙ answer-is q c.args.index c.self.invariant out c.args.back r h)) in
    let e = c.finish_run.ensures in
    ran-ended q c.args.index c.self.invariant out _ c.answer_of.result told (λ late. answer) c.finish_run.new.questions c.finish_run.new.tree c.finish_run.new.log e.questions e.tree e.log e.slices e.less c.self.inside.tenant c.self.inside.name e.asked e.kept

pub invariant_of-self : goal.invariant_of-self
invariant_of-self c = (ended c).kept

pub returns : goal.returns
returns c = (ended c).view ∙ ap (λ (v : JobView). and_own v (Finished c.args.index Ran)) c.self.view_is
