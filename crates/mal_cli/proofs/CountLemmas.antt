-- The summary of a run of a generated script.
use Rattle.std.proofs.Common.{◌≡◌, ℕ, List, Ok, Err, Result, sym, ap, ◌∙◌, subst}
use Rattle.mal_answer.proofs.Complaints.{complains-as}
use Rattle.mal_answer.proofs.Replied.{summaries-agree}
use Rattle.mal_answer.specs.Answers.{IsAnswerTo, IsSummaryOf, NoLine, logged}
use Rattle.mal_answer.specs.Command.{Denies, Refuses}
use Rattle.mal_answer.specs.Commands.{IsCountedRun, IsStoppedRunOf, Stops, running_generated}
use Rattle.mal_answer.specs.Summaries.{lines_summary}
use Rattle.mal_answer.specs.declared.answer.Complaint.{Complaint}
use Rattle.mal_answer.specs.declared.answer.Texts.{Texts}
use Rattle.spec_script.specs.Formed.{IsScript}
use Rattle.spec_script.specs.Generated.{generated}
use Rattle.mal_base.specs.Limits.{limits}
use Rattle.spec_script.specs.Script.{Scripted}

-- a summary of the lines of a run's replies is one of the replies
counted-run : (stops : Stops) (workers jobs : ℕ) (s : Scripted) (log replies gained out : List ℕ) → IsScript limits s → IsStoppedRunOf stops workers s log replies → gained ≡ log → out ≡ lines_summary jobs replies → IsCountedRun stops workers jobs s gained out
counted-run stops workers jobs s log replies gained out formed ran same told =
    let is : IsCountedRun stops workers jobs s log out = record { replies = replies; run = ran; counted = told ∙ (ap (lines_summary jobs) ran.ran.run.out_text ∙ summaries-agree jobs s ran.ran.history formed) } in
    subst (λ (text : List ℕ). IsCountedRun stops workers jobs s text out) (sym same) is

-- so it answers what is asked for
pub run-counted : (stops : Stops) (seed jobs workers : ℕ) (text : List ℕ) (s : Scripted) (log replies : List ℕ) (answer : Result Texts Complaint) → s ≡ generated seed jobs → IsScript limits s → IsStoppedRunOf stops workers s log replies → IsSummaryOf jobs log replies answer → IsAnswerTo (running_generated stops seed jobs workers) text answer
run-counted stops seed jobs workers text s log replies (Ok texts) is formed run told =
    subst (λ (x : Scripted). IsCountedRun stops workers jobs x (logged texts.log.items) texts.out.items) is (counted-run stops workers jobs s log replies (logged texts.log.items) texts.out.items formed run told.0 told.1)
run-counted stops seed jobs workers text s log replies (Err complaint) is formed run told =
    complains-as NoLine NoLine (Refuses (running_generated stops seed jobs workers) text) (Denies (running_generated stops seed jobs workers) text) (λ line k. absurd k) (λ line k. absurd k) complaint told
