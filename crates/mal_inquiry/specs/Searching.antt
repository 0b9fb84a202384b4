-- What follows a reply in a search, as contracts see it.
use Rattle.std.specs.Prelude.{ℕ, List}
use Rattle.mal_base.specs.NumberedClause.{Line}
use Rattle.mal_inquiry.specs.declared.search.Next as code
use Rattle.mal_inquiry.specs.declared.search.Next.TheVariants as of
use Rattle.mal_job.specs.Findings.{told_by}
use Rattle.mal_job.specs.declared.finding.Finding.{Finding}
use Rattle.mal_revision.specs.Posted.{Posted}
use Rattle.spec_report.specs.Replies.{ReplyBody}
use Rattle.spec_course.specs.Course.{Asked, Next, Leads}
use Rattle.spec_course.specs.Course.Next.{Asks, Ends}
use Rattle.spec_course.specs.Supported.{IsSupported, AreSupported}
use Rattle.spec_inquiry.specs.Searches.{Proofs}

-- what follows, where the proofs are these: states, outcomes with a proof and outcomes without stand for those of
-- definitions
abbrev pub next_by : {S P O T R : Type 0} → (Proofs → S → T) → (P → List Line → R) → (O → R) → Proofs → code.Next S P O → Next T R
next_by stood proved reached proofs (of.Asks s r) = Asks (stood proofs s) r
next_by stood proved reached proofs (of.Proves p n) = Ends (proved p (proofs n))
next_by stood proved reached proofs (of.Ends o) = Ends (reached o)

-- this is found of the question of this number, which was asked in this state: it has its evidence of the clauses of the
-- first question, and questions and what was told of them lead to what follows
pub record IsFoundIn {S O : Type 0} (step : S → ReplyBody → Next S O) (start : S) (question : Posted) (stood : Proofs → S) (number : ℕ) (found : Finding) : Type 0 where
  pub proofs : Proofs
  pub assumptions : List ℕ
  pub evident : IsSupported question.variables question.clauses assumptions (told_by (proofs number) found)
  pub asked : List Asked
  pub supported : AreSupported question.variables question.clauses asked
  pub leads : Leads step (Asks start question) asked (step (stood proofs) (told_by (proofs number) found))
