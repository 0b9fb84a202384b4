use Rattle.std.specs.Prelude.{◌≡◌, ℕ, ◌<◌, ◌==◌, List, [], ◌∷◌, ◌++◌, length, map, find, slice_get, All, Contains, Some}
use Rattle.std.specs.Option.{option_map_or}
use Rattle.mal_base.specs.NumberedClause.{Line}
use Rattle.mal_base.specs.Literals.{negated}
use Rattle.mal_base.specs.declared.answer.Answer.TheVariants.{Refuted}
use Rattle.mal_revision.specs.Posted.{Posted}
use Rattle.spec_logic.specs.Refutation.{IsRefutation}
use Rattle.spec_proof.specs.Log.{proof_of, IsLog}
use Rattle.spec_proof.specs.Trimmed.{reached, renumbered}
use Rattle.spec_job.specs.SoloMachine.{SoloMachine}
use Rattle.spec_job.specs.Models.{clauses_of, clauses_through}

-- the literals of the line of a log with this number, none where there is no such line
abbrev pub lits_at : ℕ → List Line → List ℕ
lits_at goal log = option_map_or (λ l. l.lits) (find (λ l. l.id == goal) log) []

-- the assumptions that a goal refutes: the negations of its literals
abbrev pub failed : ℕ → List Line → List ℕ
failed goal log = map negated (lits_at goal log)

-- the lines of a log that a goal needs, numbered after the clauses of the revisions up to this one, counted from 0
abbrev pub proof_lines : List Posted → List Line → ℕ → ℕ → List Line
proof_lines revisions log r goal = renumbered (length (clauses_through revisions r)) (reached goal log)

-- a revision was posted, its clauses and those of the revisions before it are refuted under the failed assumptions by
-- the lines that the goal needs, which are all of the job's log; these assumptions are the revision's; and the goal's
-- line is the last
pub record RefutesRevision (s : SoloMachine) (r goal : ℕ) : Type 0 where
  pub posted : r < length s.revisions
  pub refuted : IsRefutation (clauses_through s.revisions r) (failed goal s.log) (proof_of (proof_lines s.revisions s.log r goal))
  pub assumed : (p : Posted) → slice_get s.revisions r ≡ Some p → All (Contains p.assumptions) (failed goal s.log)
  pub last : (before : List Line) × (line : Line) × (proof_lines s.revisions s.log r goal ≡ before ++ line ∷ []) × (line.lits ≡ lits_at goal s.log)

-- each answer that refutes carries a proof from the clauses of the revisions up to its own
abbrev pub AnswersRefute : SoloMachine → Type 0
AnswersRefute s = (r goal : ℕ) → slice_get s.answers r ≡ Some (Refuted goal) → RefutesRevision s r goal

-- the log of a job is derived from its clauses
abbrev pub LogIsDerived : SoloMachine → Type 0
LogIsDerived s = IsLog (clauses_of s.revisions) s.log
