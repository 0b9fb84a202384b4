-- `check` takes the refutations that are written: the claim of a formula under failed assumptions, with the lines of a
-- proof as they stand.
use Rattle.std.specs.Prelude.{◌≡◌, ℕ, suc, ◌≤◌, true, List, [], ◌∷◌, ◌++◌, length, map, codes, slice_get, Some, Ok}
use Rattle.mal_base.specs.Clauses.{rises}
use Rattle.mal_base.specs.Formulas.{Formulated, is_formula, is_within}
use Rattle.mal_base.specs.Limits.{limits}
use Rattle.mal_base.specs.NumberedClause.{Line}
use Rattle.mal_revision.specs.Posted.{Posted}
use Rattle.spec_text.specs.Lines.{text_of}
use Rattle.spec_logic.specs.Refutation.{IsRefutation}
use Rattle.spec_dimacs.specs.Written.{closed_words, formula_rows}
use Rattle.spec_lrat.specs.Laws.{IsLine}
use Rattle.spec_proof.specs.Log.{added, proof_of}
use Rattle.spec_report.specs.Replies.{Proof, proof_row}
use Rattle.spec_job.specs.KeyedJob.{Key}
use Rattle.spec_job.specs.Models.{clauses_through, variables_through}
use Rattle.spec_job.specs.Replies.{body_of}
use Rattle.spec_job.specs.SoloMachine.{solo}
use Rattle.mal_history.specs.declared.event.Event as written
use Rattle.spec_hall.specs.Events.{Event}
use Rattle.spec_hall.specs.Legal.{Legal}
use Rattle.spec_hall.specs.Own.{own}
use Rattle.spec_script.specs.Formed.{IsScript}
use Rattle.spec_script.specs.Script.{ScriptedJob, Scripted, revisions}
use Rattle.spec_run.specs.Complete.{key_of_job}
use Rattle.spec_run.specs.Replayed.{IsReplied}
use Rattle.spec_run.specs.Run.{IsRun}
use Rattle.spec_max.specs.Optimum as optimum
use Rattle.spec_max.specs.Optimum.{Optimum, Best, NoModel, Unknown, clauses_in, costs_less, variables_in}
use Rattle.spec_max.specs.Right.{IsServed}
use Rattle.mal_max.specs.Found as max
use Rattle.spec_core.specs.Core as minimal
use Rattle.spec_core.specs.Right as core
use Rattle.mal_core.specs.Found as found
use Rattle.mal_claim.specs.Claims.{said}
use Rattle.mal_claim.specs.Proofs.Verdict.{Verified}

-- the words of the lines of a claim: those of the formula, the failed assumptions after an `a` where a reply has a `k`,
-- the line `proof`, and the lines `l` as a reply has them
abbrev pub claim_rows : Formulated → List ℕ → List Line → List (List (List ℕ))
claim_rows f failed lines = formula_rows f ++ (codes "a" ∷ closed_words failed) ∷ (codes "proof" ∷ []) ∷ map proof_row lines

-- its text
abbrev pub claim_text : Formulated → List ℕ → List Line → List ℕ
claim_text f failed lines = text_of (claim_rows f failed lines)

-- `check` takes a claim: what it says of the text is that the proof is verified
abbrev pub IsTaken : Formulated → List ℕ → List Line → Type 0
IsTaken f failed lines = said (claim_text f failed lines) ≡ Ok Verified

-- lines that are read again after the number `last`: each has a number above the one before it
abbrev pub AreReadable : ℕ → List Line → Type 0
AreReadable last [] = Unit {0}
AreReadable last (l ∷ ls) = IsLine last (added l) × AreReadable l.id ls

-- the formula of the revisions of a job up to this one, counted from 0
abbrev pub formula_through : List Posted → ℕ → Formulated
formula_through ps r = record { variables = variables_through ps r; clauses = clauses_through ps r }

-- lines refute a formula in form under failed assumptions of its variables, which rise, and are read again after its
-- clauses
pub record IsRefuted (f : Formulated) (failed : List ℕ) (lines : List Line) : Type 0 where
  pub formed : is_formula f ≡ true
  pub rising : rises failed ≡ true
  pub within : is_within f.variables failed ≡ true
  pub readable : AreReadable (length f.clauses) lines
  pub refuted : IsRefutation f.clauses failed (proof_of lines)

-- a claim that is refuted so is taken
abbrev pub RefutedIsTaken : Type 0
RefutedIsTaken = (f : Formulated) (failed : List ℕ) (lines : List Line) → IsRefuted f failed lines → IsTaken f failed lines

-- what a job's machine tells as a refutation of a revision, counted from 0, in a legal history: the claim of the
-- formula of its revisions up to that one is taken, with the failed assumptions and the lines that the reply has
abbrev pub LegalIsTaken : Type 0
LegalIsTaken =
    (workers r : ℕ) (history : List Event) (k : Key) (failed : List ℕ) (lines : List Line) → 1 ≤ workers → workers ≤ 64 → Legal workers history
    → body_of (suc r) (solo (own k history)) ≡ Some (Proof failed lines) → IsTaken (formula_through (solo (own k history)).revisions r) failed lines

-- so is each refutation that a run tells of a job's revision
abbrev pub RunIsTaken : Type 0
RunIsTaken =
    (workers i r : ℕ) (s : Scripted) (history : List Event) (log out : List ℕ) (j : ScriptedJob) (failed : List ℕ) (lines : List Line)
    → 1 ≤ workers → workers ≤ 64 → IsScript limits s → IsRun workers s history log out → slice_get s.jobs i ≡ Some j
    → body_of (suc r) (solo (own (key_of_job j) history)) ≡ Some (Proof failed lines) → IsTaken (formula_through (revisions j) r) failed lines

-- and each that a history tells which is replayed
abbrev pub ReplayIsTaken : Type 0
ReplayIsTaken =
    (workers i r : ℕ) (s : Scripted) (written : List written.Event) (text : List ℕ) (told : IsReplied workers s written text) (j : ScriptedJob) (failed : List ℕ) (lines : List Line)
    → 1 ≤ workers → workers ≤ 64 → IsScript limits s → slice_get s.jobs i ≡ Some j
    → body_of (suc r) (solo (own (key_of_job j) told.events)) ≡ Some (Proof failed lines) → IsTaken (formula_through (revisions j) r) failed lines

-- the formula of an instance with the counter of its soft literals
abbrev pub counted : optimum.Instance → Formulated
counted w = record { variables = variables_in w; clauses = clauses_in w }

-- the claims of an optimum are taken: that with the counter nothing costs less, where the best costs something, or that
-- nothing satisfies the formula
abbrev pub IsTakenOptimum : optimum.Instance → Optimum → Type 0
IsTakenOptimum w (Best found lines) = 1 ≤ found.cost → IsTaken (counted w) (costs_less w found.cost ∷ []) lines
IsTakenOptimum w (NoModel lines) = IsTaken (counted w) [] lines
IsTakenOptimum w (Unknown best cause) = Unit {0}

-- so are those that `max` writes
abbrev pub MaxIsTaken : Type 0
MaxIsTaken = (slices : ℕ) (w : optimum.Instance) (o : Optimum) → IsServed w → max.IsFound slices w o → IsTakenOptimum w o

-- the claim of a minimal core is taken: nothing satisfies the formula and the core
abbrev pub IsTakenCore : minimal.Instance → minimal.Minimal → Type 0
IsTakenCore w (minimal.Core c) = IsTaken w.formula c.core c.lines
IsTakenCore w (minimal.Satisfiable model) = Unit {0}
IsTakenCore w (minimal.Unknown cause) = Unit {0}

-- so is that which `core` writes
abbrev pub CoreIsTaken : Type 0
CoreIsTaken = (slices : ℕ) (w : minimal.Instance) (m : minimal.Minimal) → core.IsServed w → found.IsFound slices w m → IsTakenCore w m
