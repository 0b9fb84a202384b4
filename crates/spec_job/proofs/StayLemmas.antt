use Rattle.std.proofs.Common.{ℕ, List, [], ◌∷◌, ◌++◌, Option, sym, ◌∙◌, ap, subst, append_assoc, append-nil}
use Rattle.std.proofs.lemmas.List.Sums.{fold_push}
use Rattle.mal_base.specs.declared.answer.Answer.{Answer}
use Rattle.mal_base.specs.declared.verdict.Outcome.{Outcome}
use Rattle.spec_job.specs.SoloMachine.{Own, Opened, Revised, Reasked, Closed, Volume, Started, Finished, Exchanged, Lease, NodeSlot, SoloMachine, unopened, solo, solo_step, place_at, first_empty, settled_by, settled, finished}
use Rattle.spec_job.specs.Models.{KeepsAnswers}
use Rattle.spec_job.specs.Runnable.{AnswersStay}
use Rattle.spec_job.proofs.FinishLemmas.{settled-leaves, finished-leaves}

pub stays-self : (s : SoloMachine) → KeepsAnswers s s
stays-self s = record { more = []; kept = sym (append-nil s.answers) }

pub stays-on : (s t u : SoloMachine) → KeepsAnswers s t → KeepsAnswers t u → KeepsAnswers s u
stays-on s t u h k = record { more = h.more ++ k.more; kept = k.kept ∙ (ap (λ (xs : List Answer). xs ++ k.more) h.kept ∙ append_assoc s.answers h.more k.more) }

-- more answers, and other counts
told-stays : (s h : SoloMachine) (answers : List Answer) → KeepsAnswers s h → KeepsAnswers s (record h { answers = h.answers ++ answers; spent = 0; starved = 0 })
told-stays s h answers k = record { more = k.more ++ answers; kept = ap (λ (xs : List Answer). xs ++ answers) k.kept ∙ append_assoc s.answers k.more answers }

counted-stays : (s h : SoloMachine) (spent starved : ℕ) → KeepsAnswers s h → KeepsAnswers s (record h { spent = spent; starved = starved })
counted-stays s h spent starved k = record { more = k.more; kept = k.kept }

pub settled-stays : (o : Option ℕ) (s : SoloMachine) → KeepsAnswers s (settled_by o s)
settled-stays o s = settled-leaves (KeepsAnswers s) (told-stays s) (counted-stays s) o s (stays-self s)

finished-stays : (s : SoloMachine) (i : ℕ) (p : NodeSlot) (out : Option Lease) (o : Outcome) → KeepsAnswers s (finished s i p out o)
finished-stays s i p out o = finished-leaves (KeepsAnswers s) (told-stays s) (counted-stays s) s i p out o (stays-self s) (λ l e. record { more = []; kept = sym (append-nil s.answers) }) (record { more = []; kept = sym (append-nil s.answers) })

-- an own event keeps the answers given
pub step-stays : (s : SoloMachine) (o : Own) → KeepsAnswers s (solo_step s o)
step-stays s (Opened ask) = record { more = []; kept = sym (append-nil s.answers) }
step-stays s (Revised r) =
    let longer : SoloMachine = record s { revisions = s.revisions ++ r ∷ [] } in
    stays-on s longer (settled longer) (record { more = []; kept = sym (append-nil s.answers) }) (settled-stays (first_empty s.log) longer)
step-stays s (Reasked w) = record { more = []; kept = sym (append-nil s.answers) }
step-stays s Closed = record { more = []; kept = sym (append-nil s.answers) }
step-stays s (Volume v) = record { more = []; kept = sym (append-nil s.answers) }
step-stays s (Started i) = record { more = []; kept = sym (append-nil s.answers) }
step-stays s (Finished i o) = finished-stays s i (place_at s i) (place_at s i).out o
step-stays s Exchanged = record { more = []; kept = sym (append-nil s.answers) }

pub push-stays : (past : List Own) (o : Own) → KeepsAnswers (solo past) (solo (past ++ o ∷ []))
push-stays past o = subst (λ (s : SoloMachine). KeepsAnswers (solo past) s) (sym (fold_push solo_step unopened past o)) (step-stays (solo past) o)

pub answers-stay : AnswersStay
answers-stay past [] = subst (λ (es : List Own). KeepsAnswers (solo past) (solo es)) (sym (append-nil past)) (stays-self (solo past))
answers-stay past (o ∷ os) =
    let rest : KeepsAnswers (solo (past ++ o ∷ [])) (solo ((past ++ o ∷ []) ++ os)) = answers-stay (past ++ o ∷ []) os in
    let here : KeepsAnswers (solo past) (solo (past ++ o ∷ [])) = push-stays past o in
    subst (λ (es : List Own). KeepsAnswers (solo past) (solo es)) (append_assoc past (o ∷ []) os) (stays-on (solo past) (solo (past ++ o ∷ [])) (solo ((past ++ o ∷ []) ++ os)) here rest)
