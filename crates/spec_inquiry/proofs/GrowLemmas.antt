-- A job's machine only grows: answers, lines and revisions that it has stay where they are.
use Rattle.std.proofs.Common.{◌≡◌, ℕ, false, List, [], ◌∷◌, ◌++◌, append_assoc, append-nil, Option, refl, sym, ap, subst, ◌∙◌}
use Rattle.std.specs.List.{list_any}
use Rattle.std.proofs.lemmas.Bool.{both_ways, or_parts}
use Rattle.mal_base.specs.NumberedClause.{Line}
use Rattle.mal_base.specs.declared.answer.Answer.{Answer}
use Rattle.mal_base.specs.declared.verdict.Outcome.{Outcome}
use Rattle.mal_revision.specs.Posted.{Posted}
use Rattle.spec_job.specs.KeyedJob.{Key}
use Rattle.spec_job.specs.Models.{KeepsAnswers}
use Rattle.spec_job.specs.SoloMachine.{Own, Opened, Revised, Reasked, Closed, Volume, Started, Finished, Exchanged, Lease, NodeSlot, SoloMachine, solo, solo_step, place_at, first_empty, finished}
use Rattle.spec_job.proofs.FinishLemmas.{slice_of, finished-leaves, settled-leaves}
use Rattle.spec_job.proofs.StayLemmas.{push-stays, stays-on, stays-self}
use Rattle.spec_hall.specs.Events.{Event, Arrive}
use Rattle.spec_hall.specs.Own.{own, arrives}
use Rattle.spec_hall.proofs.KeyLemmas.{is_key-same}
use Rattle.spec_hall.proofs.PushLemmas.{solo-push, own-push, own_step-keeps}

-- the log and the revisions of a machine begin with those of another
pub record Grows (s t : SoloMachine) : Type 0 where
  pub lines : List Line
  pub log : t.log ≡ s.log ++ lines
  pub posted : List Posted
  pub revisions : t.revisions ≡ s.revisions ++ posted

same-grows : (s t : SoloMachine) → t.log ≡ s.log → t.revisions ≡ s.revisions → Grows s t
same-grows s t log revisions = record { lines = []; log = log ∙ sym (append-nil s.log); posted = []; revisions = revisions ∙ sym (append-nil s.revisions) }

grows-on : (s t u : SoloMachine) → Grows s t → Grows t u → Grows s u
grows-on s t u h k = record {
  lines = h.lines ++ k.lines;
  log = k.log ∙ (ap (λ (ls : List Line). ls ++ k.lines) h.log ∙ append_assoc s.log h.lines k.lines);
  posted = h.posted ++ k.posted;
  revisions = k.revisions ∙ (ap (λ (ps : List Posted). ps ++ k.posted) h.revisions ∙ append_assoc s.revisions h.posted k.posted);
}

-- whatever is answered, and however slices and starts are counted
answered-grows : (s h : SoloMachine) (answers : List Answer) → Grows s h → Grows s (record h { answers = h.answers ++ answers; spent = 0; starved = 0 })
answered-grows s h answers k = record { lines = k.lines; log = k.log; posted = k.posted; revisions = k.revisions }

counted-grows : (s h : SoloMachine) (spent starved : ℕ) → Grows s h → Grows s (record h { spent = spent; starved = starved })
counted-grows s h spent starved k = record { lines = k.lines; log = k.log; posted = k.posted; revisions = k.revisions }

finished-grows : (s : SoloMachine) (i : ℕ) (p : NodeSlot) (out : Option Lease) (o : Outcome) → Grows s (finished s i p out o)
finished-grows s i p out o =
    finished-leaves (Grows s) (answered-grows s) (counted-grows s) s i p out o (same-grows s s refl refl)
    (λ l e. record { lines = (slice_of s i p l).lines; log = refl; posted = []; revisions = sym (append-nil s.revisions) })
    (record { lines = []; log = sym (append-nil s.log); posted = []; revisions = sym (append-nil s.revisions) })

step-grows : (s : SoloMachine) (o : Own) → Grows s (solo_step s o)
step-grows s (Opened ask) = same-grows s (solo_step s (Opened ask)) refl refl
step-grows s (Revised r) =
    let longer : SoloMachine = record s { revisions = s.revisions ++ r ∷ [] } in
    settled-leaves (Grows s) (answered-grows s) (counted-grows s) (first_empty s.log) longer (record { lines = []; log = sym (append-nil s.log); posted = r ∷ []; revisions = refl })
step-grows s (Reasked w) = same-grows s (solo_step s (Reasked w)) refl refl
step-grows s Closed = same-grows s (solo_step s Closed) refl refl
step-grows s (Volume v) = same-grows s (solo_step s (Volume v)) refl refl
step-grows s (Started i) = same-grows s (solo_step s (Started i)) refl refl
step-grows s (Finished i o) = finished-grows s i (place_at s i) (place_at s i).out o
step-grows s Exchanged = same-grows s (solo_step s Exchanged) refl refl

-- a machine is another one after more events: it has its answers too
pub record IsLater (s t : SoloMachine) : Type 0 where
  pub answers : KeepsAnswers s t
  pub grown : Grows s t

later-self : (s : SoloMachine) → IsLater s s
later-self s = record { answers = stays-self s; grown = same-grows s s refl refl }

later-on : (s t u : SoloMachine) → IsLater s t → IsLater t u → IsLater s u
later-on s t u h k = record { answers = stays-on s t u h.answers k.answers; grown = grows-on s t u h.grown k.grown }

push-later : (os : List Own) (o : Own) → IsLater (solo os) (solo (os ++ o ∷ []))
push-later os o = record { answers = push-stays os o; grown = subst (Grows (solo os)) (sym (solo-push os o)) (step-grows (solo os) o) }

event-later : (k : Key) (past : List Event) (e : Event) → arrives k e ≡ false → IsLater (solo (own k past)) (solo (own k (past ++ e ∷ [])))
event-later k past e stays =
    subst (λ (os : List Own). IsLater (solo (own k past)) (solo os)) (sym (own-push k past e))
    (own_step-keeps (λ (os : List Own). IsLater (solo (own k past)) (solo os)) k (own k past) e (later-self (solo (own k past))) (push-later (own k past)) brings)
  where
    brings : (brought : List Own) → e ≡ Arrive k brought → IsLater (solo (own k past)) (solo brought)
    brings brought is = absurd (both_ways (arrives k e) stays (ap (arrives k) is ∙ is_key-same k))

-- so a job's machine grows with the history, until the job arrives
pub history-later : (k : Key) (past later : List Event) → list_any (arrives k) later ≡ false → IsLater (solo (own k past)) (solo (own k (past ++ later)))
history-later k past [] stays = subst (λ (h : List Event). IsLater (solo (own k past)) (solo (own k h))) (sym (append-nil past)) (later-self (solo (own k past)))
history-later k past (e ∷ es) stays =
    let parts = or_parts (arrives k e) (list_any (arrives k) es) stays in
    subst (λ (h : List Event). IsLater (solo (own k past)) (solo (own k h))) (append_assoc past (e ∷ []) es)
    (later-on (solo (own k past)) (solo (own k (past ++ e ∷ []))) (solo (own k ((past ++ e ∷ []) ++ es))) (event-later k past e parts.0) (history-later k (past ++ e ∷ []) es parts.1))
