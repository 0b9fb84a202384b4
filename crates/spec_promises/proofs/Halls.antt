-- The refutations that halls and searches tell are taken.
use Rattle.std.proofs.Common.{◌≡◌, ℕ, suc, ◌≤◌, Bool, true, false, List, [], Some, refl, subst}
use Rattle.std.specs.Prelude.{slice_get}
use Rattle.std.specs.List.{list_any}
use Rattle.mal_base.specs.Limits.{limits}
use Rattle.mal_base.specs.NumberedClause.{Line}
use Rattle.mal_revision.specs.Posted.{Posted}
use Rattle.spec_lrat.specs.Laws.{WrittenIsRead}
use Rattle.spec_report.specs.Replies.{ReplyBody, Proof}
use Rattle.spec_job.specs.KeyedJob.{Key}
use Rattle.spec_job.specs.Lawful.{IsLawful}
use Rattle.spec_job.specs.Replies.{body_of}
use Rattle.spec_job.specs.SoloMachine.{Own, solo}
use Rattle.spec_hall.specs.Events.{Event}
use Rattle.spec_hall.specs.Laws.{LegalIsLawful}
use Rattle.spec_hall.specs.Legal.{Legal}
use Rattle.spec_hall.specs.Own.{is_key, own}
use Rattle.spec_hall.specs.States.{names_of}
use Rattle.spec_hall.proofs.OrderlyLemmas.{legal-orderly}
use Rattle.spec_run.specs.Complete.{IsComplete, key_of_job}
use Rattle.spec_script.specs.Formed.{IsScript}
use Rattle.spec_script.specs.Script.{ScriptedJob, Scripted, revisions}
use Rattle.spec_inquiry.proofs.EvidenceLemmas.{legal-is_evident}
use Rattle.spec_promises.specs.Taken.{IsRefuted, IsTaken, LegalIsTaken, ReplayIsTaken, RunIsTaken, formula_through}
use Rattle.spec_promises.proofs.Jobs.{run-did}
use Rattle.spec_promises.proofs.Refuted.{lawful-refuted}
use Rattle.spec_promises.proofs.Taken.{refuted_is_taken}

-- laws of other crates: a written line is read again, and the own events of a job that came are lawful
pub record Known : Type 0 where
  pub read : WrittenIsRead
  pub lawful : LegalIsLawful

-- a job of which something is told came to the hall, so its own events are lawful
pub told-lawful : Known → (w r : ℕ) (h : List Event) (k : Key) (told : ReplyBody) → 1 ≤ w → w ≤ 64 → Legal w h → body_of (suc r) (solo (own k h)) ≡ Some told → IsLawful (own k h)
told-lawful laws w r h k told some bound legal e = by_name (list_any (is_key k) (names_of h)) refl
  where
    nothing : body_of (suc r) (solo []) ≡ Some told → ⊥
    nothing q = cc

    by_name : (b : Bool) → list_any (is_key k) (names_of h) ≡ b → IsLawful (own k h)
    by_name true q = laws.lawful w h some bound legal k q
    by_name false q = absurd (nothing (subst (λ (os : List Own). body_of (suc r) (solo os) ≡ Some told) ((legal-orderly w h legal).unknown k q) e))

pub legal-refuted : Known → (w r : ℕ) (h : List Event) (k : Key) (failed : List ℕ) (lines : List Line) → 1 ≤ w → w ≤ 64 → Legal w h → body_of (suc r) (solo (own k h)) ≡ Some (Proof failed lines) → IsRefuted (formula_through (solo (own k h)).revisions r) failed lines
legal-refuted laws w r h k failed lines some bound legal e = lawful-refuted (own k h) r failed lines (told-lawful laws w r h k (Proof failed lines) some bound legal e) (legal-is_evident w h k r (Proof failed lines) legal e) e

pub legal_is_taken : Known → LegalIsTaken
legal_is_taken laws w r h k failed lines some bound legal e = refuted_is_taken laws.read (formula_through (solo (own k h)).revisions r) failed lines (legal-refuted laws w r h k failed lines some bound legal e)

-- the revisions of a job are the script's
complete-taken : Known → (w i r : ℕ) (s : Scripted) (h : List Event) (j : ScriptedJob) (failed : List ℕ) (lines : List Line) → 1 ≤ w → w ≤ 64 → IsScript limits s → Legal w h → IsComplete s h → slice_get s.jobs i ≡ Some j → body_of (suc r) (solo (own (key_of_job j) h)) ≡ Some (Proof failed lines) → IsTaken (formula_through (revisions j) r) failed lines
complete-taken laws w i r s h j failed lines some bound formed legal complete at e =
    subst (λ (ps : List Posted). IsTaken (formula_through ps r) failed lines) (run-did w i s h j formed legal complete at).revised (legal_is_taken laws w r h (key_of_job j) failed lines some bound legal e)

pub run_is_taken : Known → RunIsTaken
run_is_taken laws workers i r s history log out j failed lines some bound formed run at e = complete-taken laws workers i r s history j failed lines some bound formed run.legal run.complete at e

pub replay_is_taken : Known → ReplayIsTaken
replay_is_taken laws workers i r s written text told j failed lines some bound formed at e = complete-taken laws workers i r s told.events j failed lines some bound formed told.legal.legal told.complete at e
