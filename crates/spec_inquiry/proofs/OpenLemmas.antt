-- The job of an inquiry stays open, with the revisions that were asked.
use Rattle.std.proofs.Common.{◌≡◌, ℕ, suc, Bool, true, false, cond, List, [], ◌∷◌, ◌++◌, append_assoc, append-nil, flat_map, refl, sym, ap, subst, ◌∙◌}
use Rattle.std.specs.List.{list_any}
use Rattle.std.proofs.lemmas.Bool.{or_left}
use Rattle.std.proofs.lemmas.List.Concat.{flat_map-cons}
use Rattle.mal_base.specs.Asks.{Terms}
use Rattle.mal_base.specs.declared.verdict.Outcome.{Outcome}
use Rattle.mal_history.specs.declared.event.Share.{Share}
use Rattle.mal_revision.specs.Posted.{Posted}
use Rattle.spec_job.specs.KeyedJob.{Key}
use Rattle.spec_job.specs.SoloMachine.{Own, Opened, Volume, Started, Finished, Exchanged, SoloMachine, solo, solo_step}
use Rattle.spec_job.proofs.StepLemmas.{start-keeps, finish-keeps}
use Rattle.spec_hall.specs.Driven.{Turn, Balances, Exchanges, Slices, events_in}
use Rattle.spec_hall.specs.Events.{Event, Open, Revise, Balance, Start, Finish, Exchange}
use Rattle.spec_hall.specs.Own.{own, own_step, adds, is_key, volume_in}
use Rattle.spec_hall.specs.States.{keys_of}
use Rattle.spec_hall.proofs.KeyLemmas.{is_key-same}
use Rattle.spec_hall.proofs.PushLemmas.{solo-push, own-push, keys-push}
use Rattle.spec_run.specs.Posting.{IsOpen}
use Rattle.spec_run.proofs.KeyLemmas.{adds-mine}
use Rattle.spec_run.proofs.OpenLemmas.{revised-is_open}
use Rattle.spec_inquiry.specs.Laws.{InquiryIsOpen}
use Rattle.spec_inquiry.specs.Rounds.{Round, AreRounds, round_events, revisions_in}

-- a machine is as open as another, with the same revisions
record IsAlike (s t : SoloMachine) : Type 0 where
  closed : t.closed ≡ s.closed
  revisions : t.revisions ≡ s.revisions

pushed : (os : List Own) (o : Own) → IsAlike (solo os) (solo_step (solo os) o) → IsAlike (solo os) (solo (os ++ o ∷ []))
pushed os o a = subst (λ (t : SoloMachine). IsAlike (solo os) t) (sym (solo-push os o)) a

added : (mine : Bool) (os : List Own) (o : Own) → IsAlike (solo os) (solo_step (solo os) o) → IsAlike (solo os) (solo (adds mine os o))
added true os o a = pushed os o a
added false os o a = record { closed = refl; revisions = refl }

volumed : (same : Bool) (os : List Own) (v : ℕ) → IsAlike (solo os) (solo (cond same os (os ++ Volume v ∷ [])))
volumed true os v = record { closed = refl; revisions = refl }
volumed false os v = pushed os (Volume v) (record { closed = refl; revisions = refl })

-- an event that leaves the keys and the machine alike leaves the job open
stays : (k : Key) (rs : List Posted) (h : List Event) (e : Event) → IsOpen k rs h → list_any (is_key k) (keys_of (h ++ e ∷ [])) ≡ list_any (is_key k) (keys_of h) → IsAlike (solo (own k h)) (solo (own_step k (own k h) e)) → IsOpen k rs (h ++ e ∷ [])
stays k rs h e is known alike =
    let machine : solo (own k (h ++ e ∷ [])) ≡ solo (own_step k (own k h) e) = ap solo (own-push k h e) in
    record {
      known = known ∙ is.known;
      unclosed = ap (λ (s : SoloMachine). s.closed) machine ∙ (alike.closed ∙ is.unclosed);
      posted = ap (λ (s : SoloMachine). s.revisions) machine ∙ (alike.revisions ∙ is.posted);
    }

balanced-open : (k : Key) (rs : List Posted) (h : List Event) (shares : List Share) → IsOpen k rs h → IsOpen k rs (h ++ Balance shares ∷ [])
balanced-open k rs h shares is = stays k rs h (Balance shares) is (ap (list_any (is_key k)) (keys-push h (Balance shares))) (volumed _ (own k h) (volume_in k shares))

exchanged-open : (k i : Key) (rs : List Posted) (h : List Event) → IsOpen k rs h → IsOpen k rs (h ++ Exchange i ∷ [])
exchanged-open k i rs h is = stays k rs h (Exchange i) is (ap (list_any (is_key k)) (keys-push h (Exchange i))) (added (is_key k i) (own k h) Exchanged (record { closed = refl; revisions = refl }))

started-open : (k i : Key) (rs : List Posted) (h : List Event) (n w : ℕ) → IsOpen k rs h → IsOpen k rs (h ++ Start i n w ∷ [])
started-open k i rs h n w is = stays k rs h (Start i n w) is (ap (list_any (is_key k)) (keys-push h (Start i n w))) (added (is_key k i) (own k h) (Started n) (let keeps = start-keeps (solo (own k h)) n in record { closed = keeps.closed; revisions = keeps.revisions }))

finished-open : (k i : Key) (rs : List Posted) (h : List Event) (n w : ℕ) (o : Outcome) → IsOpen k rs h → IsOpen k rs (h ++ Finish i n w o ∷ [])
finished-open k i rs h n w o is = stays k rs h (Finish i n w o) is (ap (list_any (is_key k)) (keys-push h (Finish i n w o))) (added (is_key k i) (own k h) (Finished n o) (let keeps = finish-keeps (solo (own k h)) n o in record { closed = keeps.closed; revisions = keeps.revisions }))

turn-open : (k : Key) (rs : List Posted) (h : List Event) (t : Turn) → IsOpen k rs h → IsOpen k rs (h ++ events_in t)
turn-open k rs h (Balances shares) is = balanced-open k rs h shares is
turn-open k rs h (Exchanges i) is = exchanged-open k i rs h is
turn-open k rs h (Slices i n o) is = subst (IsOpen k rs) (append_assoc h (Start i n 1 ∷ []) (Finish i n 1 o ∷ [])) (finished-open k i rs (h ++ Start i n 1 ∷ []) n 1 o (started-open k i rs h n 1 is))

-- turns leave a job open
pub turns-open : (k : Key) (rs : List Posted) (h : List Event) (ts : List Turn) → IsOpen k rs h → IsOpen k rs (h ++ flat_map events_in ts)
turns-open k rs h [] is = subst (IsOpen k rs) (sym (append-nil h)) is
turns-open k rs h (t ∷ ts) is =
    subst (IsOpen k rs) (append_assoc h (events_in t) (flat_map events_in ts) ∙ ap (λ (es : List Event). h ++ es) (sym (flat_map-cons events_in t ts)))
    (turns-open k rs (h ++ events_in t) ts (turn-open k rs h t is))

-- a round brings its revision
pub round-open : (k : Key) (rs : List Posted) (past : List Event) (n : ℕ) (x : Round) → IsOpen k rs past → IsOpen k (rs ++ x.asked.revision ∷ []) (past ++ round_events k n x)
round-open k rs past n x is =
    subst (IsOpen k (rs ++ x.asked.revision ∷ [])) (append_assoc past (Revise k n x.asked.revision ∷ []) (flat_map events_in x.turns))
    (turns-open k (rs ++ x.asked.revision ∷ []) (past ++ Revise k n x.asked.revision ∷ []) x.turns (revised-is_open k rs past n x.asked.revision is))

pub rounds-open : (k : Key) (rs : List Posted) (past : List Event) (n : ℕ) (xs : List Round) (history : List Event) → IsOpen k rs past → AreRounds k past n xs history → IsOpen k (rs ++ revisions_in xs) history
rounds-open k rs past n [] history is h = subst (λ (ps : List Posted). IsOpen k ps history) (sym (append-nil rs)) (subst (IsOpen k rs) (sym h) is)
rounds-open k rs past n (x ∷ xs) history is h =
    subst (λ (ps : List Posted). IsOpen k ps history) (append_assoc rs (x.asked.revision ∷ []) (revisions_in xs))
    (rounds-open k (rs ++ x.asked.revision ∷ []) (past ++ round_events k n x) (suc n) xs history (round-open k rs past n x is) h.1)

-- a job that was just opened has no revision
pub opened-open : (k : Key) (ask : Terms) → IsOpen k [] (Open k ask ∷ [])
opened-open k ask =
    let mine : own k (Open k ask ∷ []) ≡ Opened ask ∷ [] = adds-mine k [] (Opened ask) in
    record {
      known = or_left (is_key k k) false (is_key-same k);
      unclosed = ap (λ (os : List Own). (solo os).closed) mine;
      posted = ap (λ (os : List Own). (solo os).revisions) mine;
    }

pub inquiry-is_open : InquiryIsOpen
inquiry-is_open k ask rounds history i = rounds-open k [] (Open k ask ∷ []) 1 rounds history (opened-open k ask) i.asked
