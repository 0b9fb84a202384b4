use Rattle.std.proofs.Common.{◌≡◌, List, Some, sym, ◌∙◌, ap}
use Rattle.mal_base.specs.declared.answer.Answer.{Answer}
use Rattle.mal_job.specs.Among.{among}
use Rattle.mal_job.proofs.FindingLemmas.{finds-answer}
use Rattle.mal_job.proofs.job.Job.finding.Goals as goal

pub returns-in_ok-found-in-Some : goal.returns-in_ok-found-in-Some
returns-in_ok-found-in-Some c =
    let there : Some c.in-Some.answer.now ≡ among c.args.r c.self.inside.questions.answers = c.in-Some.ensures ∙ ap (λ (xs : List Answer). among c.args.r xs) c.answers.ensures.value in
    finds-answer c.args.self.now.titled.state c.args.r c.in-Some.answer.now c.in_ok-found-in-Some.field-0 (rw (← c.self.view_is) there) c.in_ok-found-in-Some.ensures
