-- Replies that were told stay, as the history goes on.
use Rattle.std.proofs.Common.{◌≡◌, ℕ, true, false, List, [], ◌∷◌, ◌++◌, Option, Some, None, is_some, refl, sym, ◌∙◌, ap, subst, append_assoc, append-nil}
use Rattle.std.specs.List.{list_any}
use Rattle.std.proofs.lemmas.Bool.{both_ways, or_parts}
use Rattle.std.proofs.lemmas.List.Elements.{All-nil, All-cons, All-head, All-tail}
use Rattle.spec_job.specs.KeyedJob.{Key}
use Rattle.spec_job.specs.Replies.{reply}
use Rattle.spec_job.specs.Runnable.{IsRunnable}
use Rattle.spec_job.specs.SoloMachine.{Own, solo}
use Rattle.spec_job.proofs.LastingLemmas.{replies-stay}
use Rattle.spec_hall.specs.Events.{Event, moves}
use Rattle.spec_hall.specs.Legal.{Legal}
use Rattle.spec_hall.specs.Own.{own, own_step}
use Rattle.spec_hall.proofs.PushLemmas.{own-push, own_step-keeps}
use Rattle.spec_hall.proofs.RunnableLemmas.{legal-is_runnable}
use Rattle.spec_run.specs.Run.{text_or_none}
use Rattle.spec_live.specs.Live.{AreTold, Told, reply_in, told_text}
use Rattle.spec_live.specs.Laws.{CanTell, ToldStays}

-- an event that moves no job leaves what a job did, and may add to it
event-adds : (k : Key) (os : List Own) (e : Event) → moves e ≡ false → (more : List Own) × (own_step k os e ≡ os ++ more)
event-adds k os e still = own_step-keeps (λ xs. (more : List Own) × (xs ≡ os ++ more)) k os e ([], sym (append-nil os)) (λ o. (o ∷ [], refl)) (λ brought is. absurd (both_ways (moves e) still (ap moves is)))

-- and so do many
own-goes_on : (k : Key) (past later : List Event) → list_any moves later ≡ false → (more : List Own) × (own k (past ++ later) ≡ own k past ++ more)
own-goes_on k past [] still = ([], ap (own k) (append-nil past) ∙ sym (append-nil (own k past)))
own-goes_on k past (e ∷ es) still =
    let parts = or_parts (moves e) (list_any moves es) still in
    let here = event-adds k (own k past) e parts.0 in
    let rest = own-goes_on k (past ++ e ∷ []) es parts.1 in (
      here.0 ++ rest.0,
      ap (own k) (sym (append_assoc past (e ∷ []) es))
          ∙ (rest.1 ∙ (ap (λ (os : List Own). os ++ rest.0) (own-push k past e ∙ here.1) ∙ append_assoc (own k past) here.0 rest.0)),
    )

-- a reply that could be told stays
pub reply-stays : (workers : ℕ) (past later : List Event) (t : Told) → Legal workers (past ++ later) → list_any moves later ≡ false → is_some (reply_in past t) ≡ true → reply_in (past ++ later) t ≡ reply_in past t
reply-stays workers past later t legal still there = by_reply (reply_in past t) refl there
  where
    by_reply : (o : Option (List ℕ)) → reply_in past t ≡ o → is_some o ≡ true → reply_in (past ++ later) t ≡ o
    by_reply None is some = absurd (cc)
    by_reply (Some text) is some =
        let more = own-goes_on t.key past later still in
        let may : IsRunnable [] (own t.key past ++ more.0) = subst (λ (os : List Own). IsRunnable [] os) more.1 (legal-is_runnable workers (past ++ later) legal t.key) in
        ap (λ (os : List Own). reply t.key t.revision (solo os)) more.1 ∙ replies-stay t.key t.revision text (own t.key past) more.0 may is

-- so it can still be told
pub can-tell : (workers : ℕ) (past later : List Event) (told : List Told) → Legal workers (past ++ later) → list_any moves later ≡ false → CanTell past told → CanTell (past ++ later) told
can-tell workers past later [] legal still can = All-nil (λ (t : Told). is_some (reply_in (past ++ later) t) ≡ true)
can-tell workers past later (t ∷ ts) legal still can =
    let here : is_some (reply_in past t) ≡ true = All-head (λ (x : Told). is_some (reply_in past x) ≡ true) t ts can in
    All-cons (λ (x : Told). is_some (reply_in (past ++ later) x) ≡ true) t ts
    (ap (λ (o : Option (List ℕ)). is_some o) (reply-stays workers past later t legal still here) ∙ here)
    (can-tell workers past later ts legal still (All-tail (λ (x : Told). is_some (reply_in past x) ≡ true) t ts can))

-- and the text of many is the same
pub text-stays : (workers : ℕ) (past later : List Event) (told : List Told) → Legal workers (past ++ later) → list_any moves later ≡ false → CanTell past told → told_text (past ++ later) told ≡ told_text past told
unfolding told_text
text-stays workers past later [] legal still can = refl
text-stays workers past later (t ∷ ts) legal still can =
    let here : reply_in (past ++ later) t ≡ reply_in past t = reply-stays workers past later t legal still (All-head (λ (x : Told). is_some (reply_in past x) ≡ true) t ts can) in
    ap (λ (o : Option (List ℕ)). text_or_none o ++ told_text (past ++ later) ts) here
    ∙ ap (λ (text : List ℕ). text_or_none (reply_in past t) ++ text) (text-stays workers past later ts legal still (All-tail (λ (x : Told). is_some (reply_in past x) ≡ true) t ts can))

pub told-stays : ToldStays
told-stays workers past later told legal still can = (can-tell workers past later told legal still can, text-stays workers past later told legal still can)

-- what was told, in its order, was told as well in a history that goes on
pub are-told_on : (workers : ℕ) (past later : List Event) (told : List Told) → Legal workers (past ++ later) → list_any moves later ≡ false → AreTold past told → AreTold (past ++ later) told
are-told_on workers past later told legal still are = record { answered = can-tell workers past later told legal still are.answered; order = are.order }
