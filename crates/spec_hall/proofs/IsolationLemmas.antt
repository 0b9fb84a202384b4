use Rattle.std.proofs.Common.{◌≡◌, ◌≢◌, false, List, [], ◌∷◌, ◌++◌, Some, refl, sym, ◌∙◌, ap, subst, append_assoc, append-nil}
use Rattle.std.specs.List.{list_any}
use Rattle.std.proofs.lemmas.Bool.{both_ways, false_from_ne_true, or_parts}
use Rattle.std.proofs.lemmas.Bool.Decides.{Decides-eqb}
use Rattle.spec_job.specs.SoloMachine.{Own, Opened, Revised, Reasked, Closed, Started, Finished, Exchanged, solo}
use Rattle.spec_job.specs.KeyedJob.{Key}
use Rattle.spec_job.specs.Models.{KeepsAnswers}
use Rattle.spec_job.specs.Replies.{reply}
use Rattle.spec_job.proofs.StayLemmas.{push-stays, stays-on, stays-self}
use Rattle.spec_hall.specs.Events.{Event, Open, Revise, Reask, Close, Balance, Start, Finish, Exchange, Leave, Arrive}
use Rattle.spec_hall.specs.Own.{own, own_step, adds, arrives, is_key, volume_in, volume_after}
use Rattle.spec_hall.specs.Laws.{JobAnswersStay, OthersLeaveOwn, OwnEventsAnswer, OwnEventsReply, SameVolumeLeavesOwn, job_in}
use Rattle.spec_hall.proofs.KeyLemmas.{is_key-Decides, is_key-same}
use Rattle.spec_hall.proofs.PushLemmas.{own-push, own_step-keeps}

-- an event that is no arrival of the job keeps the answers that were given
event-stays : (j : Key) (es : List Own) (e : Event) → arrives j e ≡ false → KeepsAnswers (solo es) (solo (own_step j es e))
event-stays j es e other = own_step-keeps (λ os. KeepsAnswers (solo es) (solo os)) j es e (stays-self (solo es)) (push-stays es) (λ brought is. absurd (arrived brought is))
  where
    arrived : (brought : List Own) → e ≡ Arrive j brought → ⊥
    arrived brought is = both_ways (arrives j e) other (ap (arrives j) is ∙ is_key-same j)

pub job_answers-stay : JobAnswersStay
job_answers-stay j past [] none = subst (λ (h : List Event). KeepsAnswers (solo (own j past)) (solo (own j h))) (sym (append-nil past)) (stays-self (solo (own j past)))
job_answers-stay j past (e ∷ es) none =
    let parts = or_parts (arrives j e) (list_any (arrives j) es) none in
    let here : KeepsAnswers (solo (own j past)) (solo (own j (past ++ e ∷ []))) = subst (λ (os : List Own). KeepsAnswers (solo (own j past)) (solo os)) (sym (own-push j past e)) (event-stays j (own j past) e parts.0) in
    let rest : KeepsAnswers (solo (own j (past ++ e ∷ []))) (solo (own j ((past ++ e ∷ []) ++ es))) = job_answers-stay j (past ++ e ∷ []) es parts.1 in
    subst (λ (h : List Event). KeepsAnswers (solo (own j past)) (solo (own j h))) (append_assoc past (e ∷ []) es) (stays-on (solo (own j past)) (solo (own j (past ++ e ∷ []))) (solo (own j ((past ++ e ∷ []) ++ es))) here rest)

-- two histories with the same own events of a job
pub own_events-answer : OwnEventsAnswer
own_events-answer k one other same = ap (λ (es : List Own). (solo es).answers) same

pub own_events-reply : OwnEventsReply
own_events-reply k one other same r = ap (λ (es : List Own). reply k r (solo es)) same

differs-from : (j k : Key) → j ≢ k → is_key j k ≡ false
differs-from j k other = false_from_ne_true (is_key j k) (λ q. other ((is_key-Decides j k).0 q))

adds-other : (j k : Key) (es : List Own) (o : Own) → j ≢ k → adds (is_key j k) es o ≡ es
adds-other j k es o other = rw (differs-from j k other) refl

-- an event of another job
step-other : (j k : Key) (es : List Own) (e : Event) → job_in e ≡ Some k → j ≢ k → own_step j es e ≡ es
step-other j k es (Open i ask) e other = adds-other j i es (Opened ask) (subst (λ (x : Key). j ≢ x) (sym (let same : i ≡ k = cc in same)) other)
step-other j k es (Revise i number r) e other = adds-other j i es (Revised r) (subst (λ (x : Key). j ≢ x) (sym (let same : i ≡ k = cc in same)) other)
step-other j k es (Reask i w) e other = adds-other j i es (Reasked w) (subst (λ (x : Key). j ≢ x) (sym (let same : i ≡ k = cc in same)) other)
step-other j k es (Close i) e other = adds-other j i es Closed (subst (λ (x : Key). j ≢ x) (sym (let same : i ≡ k = cc in same)) other)
step-other j k es (Balance shares) e other = absurd (cc)
step-other j k es (Start i index worker) e other = adds-other j i es (Started index) (subst (λ (x : Key). j ≢ x) (sym (let same : i ≡ k = cc in same)) other)
step-other j k es (Finish i index worker outcome) e other = adds-other j i es (Finished index outcome) (subst (λ (x : Key). j ≢ x) (sym (let same : i ≡ k = cc in same)) other)
step-other j k es (Exchange i) e other = adds-other j i es Exchanged (subst (λ (x : Key). j ≢ x) (sym (let same : i ≡ k = cc in same)) other)
step-other j k es (Leave i) e other = rw (differs-from j i (subst (λ (x : Key). j ≢ x) (sym (let same : i ≡ k = cc in same)) other)) refl
step-other j k es (Arrive i brought) e other = rw (differs-from j i (subst (λ (x : Key). j ≢ x) (sym (let same : i ≡ k = cc in same)) other)) refl

pub others-leave_own : OthersLeaveOwn
others-leave_own j k h e of_k other = own-push j h e ∙ step-other j k (own j h) e of_k other

pub same_volume-leaves_own : SameVolumeLeavesOwn
same_volume-leaves_own j h shares same = own-push j h (Balance shares) ∙ rw ((Decides-eqb (volume_in j shares) (volume_after (own j h))).1 same) refl
