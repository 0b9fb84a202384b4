-- Replies stay in a hall: what a job did is a beginning of what it has done later.
use Rattle.std.proofs.Common.{◌≡◌, false, List, [], ◌∷◌, ◌++◌, refl, sym, ◌∙◌, ap, subst, append_assoc, append-nil}
use Rattle.std.specs.List.{list_any}
use Rattle.std.proofs.lemmas.Bool.{both_ways, or_parts}
use Rattle.spec_job.specs.KeyedJob.{Key}
use Rattle.spec_job.specs.Replies.{reply}
use Rattle.spec_job.specs.Runnable.{IsRunnable}
use Rattle.spec_job.specs.SoloMachine.{Own, solo}
use Rattle.spec_job.proofs.LastingLemmas.{replies-stay}
use Rattle.spec_hall.specs.Events.{Event, Arrive}
use Rattle.spec_hall.specs.Own.{own, own_step, arrives}
use Rattle.spec_hall.specs.Replies.{HasReplies, JobRepliesStay}
use Rattle.spec_hall.proofs.KeyLemmas.{is_key-same}
use Rattle.spec_hall.proofs.PushLemmas.{own-push, own_step-keeps}
use Rattle.spec_hall.proofs.RunnableLemmas.{legal-is_runnable}

-- an event that is no arrival of the job leaves what it did, and may add to it
event-adds : (j : Key) (es : List Own) (e : Event) → arrives j e ≡ false → (more : List Own) × (own_step j es e ≡ es ++ more)
event-adds j es e other = own_step-keeps (λ os. (more : List Own) × (os ≡ es ++ more)) j es e ([], sym (append-nil es)) (λ o. (o ∷ [], refl)) (λ brought is. absurd (arrived brought is))
  where
    arrived : (brought : List Own) → e ≡ Arrive j brought → ⊥
    arrived brought is = both_ways (arrives j e) other (ap (arrives j) is ∙ is_key-same j)

-- and so do many
own-goes_on : (j : Key) (past later : List Event) → list_any (arrives j) later ≡ false → (more : List Own) × (own j (past ++ later) ≡ own j past ++ more)
own-goes_on j past [] none = ([], ap (own j) (append-nil past) ∙ sym (append-nil (own j past)))
own-goes_on j past (e ∷ es) none =
    let parts = or_parts (arrives j e) (list_any (arrives j) es) none in
    let here = event-adds j (own j past) e parts.0 in
    let rest = own-goes_on j (past ++ e ∷ []) es parts.1 in (
      here.0 ++ rest.0,
      ap (own j) (sym (append_assoc past (e ∷ []) es))
          ∙ (rest.1 ∙ (ap (λ (os : List Own). os ++ rest.0) (own-push j past e ∙ here.1) ∙ append_assoc (own j past) here.0 rest.0)),
    )

pub job_replies-stay : JobRepliesStay
job_replies-stay workers k r text past later legal none e =
    let more = own-goes_on k past later none in
    let may : IsRunnable [] (own k past ++ more.0) = subst (λ (os : List Own). IsRunnable [] os) more.1 (legal-is_runnable workers (past ++ later) legal k) in
    ap (λ (os : List Own). reply k r (solo os)) more.1 ∙ replies-stay k r text (own k past) more.0 may e

pub replies : HasReplies
replies = record { none = refl; told = refl; gone = refl; same = refl }
