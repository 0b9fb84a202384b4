-- What is found of a revision.
use Rattle.std.proofs.Common.{◌≡◌, ℕ, zero, suc, List, Option, Some, None, sym, ◌∙◌, ap}
use Rattle.std.specs.Option.{option_map}
use Rattle.mal_base.specs.NumberedClause.{Line}
use Rattle.mal_base.specs.declared.answer.Answer.{Answer}
use Rattle.mal_base.specs.declared.answer.Answer.TheVariants.{Refuted}
use Rattle.spec_report.specs.Replies.{ReplyBody, Proof}
use Rattle.spec_job.specs.Proofs.{failed, proof_lines}
use Rattle.spec_job.specs.Replies.{body_by, body_of}
use Rattle.spec_job.specs.SoloMachine.{SoloMachine}
use Rattle.mal_job.specs.Among.{among}
use Rattle.mal_job.specs.Findings.{told_by}
use Rattle.mal_job.specs.declared.finding.Finding.{Finding}

-- of an answer that refutes the failed assumptions are found, whatever the lines
pub failed-found : (s : SoloMachine) (r : ℕ) (a : Answer) (goal : ℕ) (lits : List ℕ) → a ≡ Refuted goal → failed goal s.log ≡ lits → (lines : List Line) × (body_by s r a ≡ Proof lits lines)
failed-found s r a goal lits is same =
    (proof_lines s.revisions s.log r goal, ap (body_by s r) is ∙ ap (λ (ls : List ℕ). Proof ls (proof_lines s.revisions s.log r goal)) same)

-- what is found of an answer is found of its revision
pub finds-answer : (s : SoloMachine) (r : ℕ) (a : Answer) (found : Finding) → Some a ≡ among r s.answers → ((n : ℕ) → (lines : List Line) × (body_by s n a ≡ told_by lines found)) → (lines : List Line) × (body_of r s ≡ Some (told_by lines found))
finds-answer s zero a found there told = absurd (let no : Some a ≡ None = there in cc)
finds-answer s (suc k) a found there told =
    let one = told k in
    (one.0, ap (λ (o : Option Answer). option_map (body_by s k) o) (sym there) ∙ ap (λ (b : ReplyBody). Some b) one.1)
