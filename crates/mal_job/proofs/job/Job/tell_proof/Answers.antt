use Rattle.std.proofs.Common.{◌≡◌, ◌∙◌, List, take, ap, arith}
use Rattle.mal_base.specs.NumberedClause.{Line}
use Rattle.mal_revision.specs.Posted.{Posted}
use Rattle.spec_job.specs.SoloMachine.{clauses_in}
use Rattle.spec_job.specs.Proofs.{lits_at}
use Rattle.spec_proof.specs.Trimmed.{reached}
use Rattle.mal_job.specs.Viewed.{shared}
use Rattle.mal_job.proofs.LoadingLemmas.{few-front}
use Rattle.mal_job.proofs.ToldLemmas.{proof-told}
use Rattle.mal_job.proofs.TreeLemmas.{shared-take}
use Rattle.mal_job.proofs.job.Job.tell_proof.Goals as goal

pub count_clauses-count-requires : goal.count_clauses-count-requires
count_clauses-count-requires c =
    let rs : List Posted = c.self.inside.questions.revisions in
    let front : shared (take c.args.r c.revisions-revisions.result.now) ≡ take c.args.r rs = shared-take c.args.r c.revisions-revisions.result.now ∙ ap (λ (xs : List Posted). take c.args.r xs) c.revisions-revisions.ensures.value in
    let same : clauses_in (shared (take c.args.r c.revisions-revisions.result.now)) ≡ clauses_in (take c.args.r rs) = ap clauses_in front in
    omega (arith, same, few-front c.args.r rs, c.revisions-revisions.ensures.kept.clauses)

pub returns : goal.returns
returns c =
    let rs : List Posted = c.self.inside.questions.revisions in
    let front : shared (take c.args.r c.revisions-revisions.result.now) ≡ take c.args.r rs = shared-take c.args.r c.revisions-revisions.result.now ∙ ap (λ (xs : List Posted). take c.args.r xs) c.revisions-revisions.ensures.value in
    rw (← c.self.view_is) (proof-told rs c.self.inside.log.lines c.args.r c.args.goal c.count_clauses-count.result c.last_lits.result.now c.in_ok-failed.failed.items c.in_ok-needed.needed.lines c.in_ok-lines.lines.lines c.requires.first (c.last_lits.ensures ∙ (c.in_ok-needed.ensures.goal ∙ ap (λ (ls : List Line). lits_at c.args.goal ls) c.log.ensures)) c.in_ok-failed.ensures (c.in_ok-needed.ensures.reached ∙ ap (λ (ls : List Line). reached c.args.goal ls) c.log.ensures) (c.count_clauses-count.ensures ∙ ap clauses_in front) c.in_ok-lines.ensures)
