use Rattle.std.proofs.Common.{◌≡◌, ℕ, List, map, sym, ◌∙◌, ap}
use Rattle.mal_base.specs.Literals.{negated}
use Rattle.mal_base.specs.NumberedClause.{Line}
use Rattle.spec_job.specs.Proofs.{failed, lits_at}
use Rattle.mal_job.proofs.FindingLemmas.{failed-found}
use Rattle.mal_job.proofs.job.Job.found.Goals as goal

pub returns-in_ok-failed-in-Refuted : goal.returns-in_ok-failed-in-Refuted
returns-in_ok-failed-in-Refuted c r =
    let log : List Line = c.self.inside.log.lines in
    let lits : c.lits_at.result.now ≡ lits_at c.in-Refuted.goal log = c.lits_at.ensures ∙ ap (λ (ls : List Line). lits_at c.in-Refuted.goal ls) c.log.ensures in
    let all : failed c.in-Refuted.goal log ≡ c.in_ok-failed-in-Refuted.failed.items = sym (c.in_ok-failed-in-Refuted.ensures ∙ ap (map negated) lits) in
    failed-found c.args.self.now.titled.state r c.args.answer.now c.in-Refuted.goal c.in_ok-failed-in-Refuted.failed.items c.in-Refuted.is (rw (← c.self.view_is) all)
