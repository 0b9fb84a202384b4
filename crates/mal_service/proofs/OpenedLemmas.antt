-- What a legal record tells of the jobs that were opened in it, and of replies.
use Rattle.std.proofs.Common.{◌≡◌, ℕ, zero, suc, true, false, List, [], ◌∷◌, ◌++◌, Option, Result, Ok, Err, refl, sym, ap, ◌∙◌, subst, append_assoc, append-nil}
use mathlib.Core.Option as lean
use Rattle.std.specs.List.{list_any}
use Rattle.std.proofs.lemmas.Bool.{both_ways, or_parts, or_right, or_left}
use Rattle.std.proofs.lemmas.List.Folds.{list_any-append}
use Rattle.mal_turn.specs.declared.view.View.{View}
use Rattle.mal_turn.specs.Rule.{At}
use Rattle.mal_base.specs.Asks.{Terms}
use Rattle.spec_job.specs.Replies.{reply}
use Rattle.spec_job.specs.SoloMachine.{solo}
use Rattle.spec_job.specs.KeyedJob.{Key, KeyedJob}
use Rattle.mal_base.specs.declared.hall_fault.ReviseFault.TheVariants as revising
use Rattle.mal_base.specs.declared.hall_fault.ReaskFault.TheVariants as reasking
use Rattle.mal_base.specs.declared.hall_fault.CloseFault.TheVariants as closing
use Rattle.mal_base.specs.declared.hall_fault.ReplyFault.TheVariants as asking
use Rattle.mal_base.specs.declared.hall_fault.ReviseFault.{ReviseFault}
use Rattle.mal_base.specs.declared.hall_fault.ReaskFault.{ReaskFault}
use Rattle.mal_base.specs.declared.hall_fault.CloseFault.{CloseFault}
use Rattle.mal_base.specs.declared.hall_fault.ReplyFault.{ReplyFault}
use Rattle.spec_hall.specs.Calls.{IsAsking, IsClosing, IsOpening, IsReasking, IsRevising}
use Rattle.spec_hall.specs.Events.{Event, Open, Revise, Reask, Close, Balance, Start, Finish, Exchange, Leave, Arrive, moves}
use Rattle.spec_hall.specs.Own.{own, is_key, leaves}
use Rattle.spec_hall.specs.States.{keys_of}
use Rattle.spec_hall.proofs.KeyLemmas.{is_key-same}
use Rattle.spec_hall.proofs.PushLemmas.{keys-push}
use Rattle.spec_hall.proofs.RunnableLemmas.{legal-answers_refute, legal-answers_solve, legal-clauses_own}
use Rattle.spec_hall.proofs.StatesLemmas.{job_of-absent, job_of-found, keys-stay}
use Rattle.mal_service.specs.Laws.{AgreeingTellEqual, OpenedIsFound, RepliesAreSolo, TellsNoJob, machine}
use Rattle.mal_service.specs.Passes.{Enters}
use Rattle.mal_service.specs.Record.{Answered, Opened, Revised, Reasked, Closed, Asked, Picked, Gave, AreAnsweredFrom, Entry, IsAnswered, Record, entry, events_of}
use Rattle.mal_service.proofs.RecordLemmas.{events-append, events-push}
use Rattle.mal_service.proofs.StayLemmas.{answers-stay}

-- the job of a key is there after a past
abbrev WasOpened : Key → List Event → Type 0
WasOpened k past = list_any (is_key k) (keys_of past) ≡ true

-- an event that moves no job is no leave of one
no-leave : (k : Key) (e : Event) → moves e ≡ false → leaves k e ≡ false
no-leave k (Open i ask) stay = refl
no-leave k (Revise i number r) stay = refl
no-leave k (Reask i weight) stay = refl
no-leave k (Close i) stay = refl
no-leave k (Balance shares) stay = refl
no-leave k (Start i index worker) stay = refl
no-leave k (Finish i index worker outcome) stay = refl
no-leave k (Exchange i) stay = refl
no-leave k (Leave i) stay = absurd (cc)
no-leave k (Arrive i brought) stay = refl

opened-stays : (k : Key) (past es : List Event) → list_any moves es ≡ false → WasOpened k past → WasOpened k (past ++ es)
opened-stays k past [] stay h = subst (λ (p : List Event). list_any (is_key k) (keys_of p) ≡ true) (sym (append-nil past)) h
opened-stays k past (e ∷ es) stay h =
    let parts = or_parts (moves e) (list_any moves es) stay in
    let next : WasOpened k (past ++ e ∷ []) = subst (λ (ks : List Key). list_any (is_key k) ks ≡ true) (sym (keys-push past e)) (keys-stay k (keys_of past) e (no-leave k e parts.0) h) in
    subst (λ (p : List Event). list_any (is_key k) (keys_of p) ≡ true) (append_assoc past (e ∷ []) es) (opened-stays k (past ++ e ∷ []) es parts.1 next)

-- the job that an Open opens
opened-here : (k : Key) (ask : Terms) (past : List Event) → WasOpened k (past ++ Open k ask ∷ [])
opened-here k ask past =
    subst (λ (ks : List Key). list_any (is_key k) ks ≡ true) (sym (keys-push past (Open k ask)))
    (list_any-append (is_key k) (keys_of past) (k ∷ []) ∙ or_right (list_any (is_key k) (keys_of past)) (list_any (is_key k) (k ∷ [])) (or_left (is_key k k) false (is_key-same k)))

-- the calls of a record's beginning, and those after it
pub calls-parts : (w : ℕ) (past : List Event) (a b : Record) → AreAnsweredFrom w past (a ++ b) → AreAnsweredFrom w past a × AreAnsweredFrom w (past ++ events_of a) b
calls-parts w past [] b calls = (tt, subst (λ (h : List Event). AreAnsweredFrom w h b) (sym (append-nil past)) calls)
calls-parts w past (e ∷ a) b calls =
    let rest = calls-parts w (past ++ e.1.events) a b calls.1 in
    ((calls.0, rest.0), subst (λ (h : List Event). AreAnsweredFrom w h b) (append_assoc past e.1.events (events_of a)) rest.1)

-- a job whose opening stands in a record
record-opened : (w : ℕ) (past : List Event) (log : Record) (i : ℕ) (n : List ℕ) (k : Key) (ask : Terms) (done : Unit {0}) (es : List Event)
    → AreAnsweredFrom w past log → At log i (n, entry (Opened k ask (Ok done)) es) → WasOpened k (past ++ events_of log)
record-opened w past [] i n k ask done es calls at = absurd (lean.some-ne-none (n, entry (Opened k ask (Ok done)) es) (sym at))
record-opened w past (e ∷ log) zero n k ask done es calls at =
    let is : e ≡ (n, entry (Opened k ask (Ok done)) es) = lean.some-injective e (n, entry (Opened k ask (Ok done)) es) at in
    let call : IsOpening past k ask (Ok done) es = subst (λ (d : List ℕ × Entry). IsAnswered w past d.1.call d.1.events) is calls.0 in
    let one : e.1.events ≡ Open k ask ∷ [] = ap (λ (d : List ℕ × Entry). d.1.events) is ∙ call.1 in
    let here : WasOpened k (past ++ e.1.events) = subst (λ (xs : List Event). WasOpened k (past ++ xs)) (sym one) (opened-here k ask past) in
    subst (WasOpened k) (append_assoc past e.1.events (events_of log)) (opened-stays k (past ++ e.1.events) (events_of log) (answers-stay w (past ++ e.1.events) log calls.1) here)
record-opened w past (e ∷ log) (suc i) n k ask done es calls at =
    subst (WasOpened k) (append_assoc past e.1.events (events_of log)) (record-opened w (past ++ e.1.events) log i n k ask done es calls.1 at)

-- who is told that there is no job asks for one that was not opened
told-unopened : (w : ℕ) (past es : List Event) (k : Key) (c : Answered) → IsAnswered w past c es → TellsNoJob k c → WasOpened k past → ⊥
told-unopened w past es k (Opened j ask a) call tells opened = tells
told-unopened w past es k (Revised j r a) call tells opened =
    let none = subst (λ (x : Key). IsRevising past x r (Err revising.NoJob) es) tells.0 (subst (λ (b : Result (Unit {0}) ReviseFault). IsRevising past j r b es) tells.1 call) in
    both_ways (list_any (is_key k) (keys_of past)) (job_of-absent past k none.0) opened
told-unopened w past es k (Reasked j weight a) call tells opened =
    let none = subst (λ (x : Key). IsReasking past x weight (Err reasking.NoJob) es) tells.0 (subst (λ (b : Result (Unit {0}) ReaskFault). IsReasking past j weight b es) tells.1 call) in
    both_ways (list_any (is_key k) (keys_of past)) (job_of-absent past k none.0) opened
told-unopened w past es k (Closed j a) call tells opened =
    let none = subst (λ (x : Key). IsClosing past x (Err closing.NoJob) es) tells.0 (subst (λ (b : Result (Unit {0}) CloseFault). IsClosing past j b es) tells.1 call) in
    both_ways (list_any (is_key k) (keys_of past)) (job_of-absent past k none.0) opened
told-unopened w past es k (Picked worker a) call tells opened = tells
told-unopened w past es k (Gave d a) call tells opened = tells
told-unopened w past es k (Asked j r a) call tells opened =
    let none = subst (λ (x : Key). IsAsking past x r (Err asking.NoJob) es) tells.0 (subst (λ (b : Result (Option (List ℕ)) ReplyFault). IsAsking past j r b es) tells.1 call) in
    both_ways (list_any (is_key k) (keys_of past)) (job_of-absent past k none.0) opened

-- the calls of the record that a pass has seen before its own, and its own
entered-calls : (w : ℕ) (before after : View Entry) (c : Answered) (h : Enters w before c after) → AreAnsweredFrom w [] h.extends.earlier × IsAnswered w (events_of h.extends.earlier) c h.events
entered-calls w before after c h =
    let parts = calls-parts w [] h.extends.earlier ((before.of.first, entry c h.events) ∷ []) (subst (AreAnsweredFrom w []) h.extends.seen h.legal.answers) in
    (parts.0, parts.1.0)

pub opened-is_found : OpenedIsFound
opened-is_found w before after k ask done es i n c at h tells =
    let calls = entered-calls w before after c h in
    let b = h.extends.begins in
    let parts = calls-parts w [] before.seen b.0 (subst (AreAnsweredFrom w []) b.1 calls.0) in
    let opened : WasOpened k (events_of before.seen) = record-opened w [] before.seen i n k ask done es parts.0 at in
    let later : WasOpened k (events_of h.extends.earlier) = subst (WasOpened k) (sym (ap events_of b.1 ∙ events-append before.seen b.0)) (opened-stays k (events_of before.seen) (events_of b.0) (answers-stay w (events_of before.seen) b.0 parts.1) opened) in
    told-unopened w (events_of h.extends.earlier) h.events k c calls.1 tells later

-- a reply is that of the machine
told-machine : (w : ℕ) (before after : View Entry) (k : Key) (r : ℕ) (text : Option (List ℕ)) → Enters w before (Asked k r (Ok text)) after → text ≡ reply k r (machine k after.seen)
told-machine w before after k r text h =
    let call : IsAsking (events_of h.extends.earlier) k r (Ok text) h.events = (entered-calls w before after (Asked k r (Ok text)) h).1 in
    let found = job_of-found (events_of h.extends.earlier) k call.0 call.1 in
    let same : events_of after.seen ≡ events_of h.extends.earlier = ap events_of h.extends.seen ∙ (events-push h.extends.earlier before.of.first (entry (Asked k r (Ok text)) h.events) ∙ (ap (λ (es : List Event). events_of h.extends.earlier ++ es) call.3 ∙ append-nil (events_of h.extends.earlier))) in
    call.2 ∙ (ap (λ (t : KeyedJob). reply k r t.state) (sym found.machine) ∙ ap (λ (past : List Event). reply k r (solo (own k past))) (sym same))

pub replies-are_solo : RepliesAreSolo
replies-are_solo w before after k r text h = record {
  told = told-machine w before after k r text h;
  models = legal-answers_solve w (events_of after.seen) h.legal.history k;
  proofs = legal-answers_refute w (events_of after.seen) h.legal.history k;
  own_clauses = legal-clauses_own w (events_of after.seen) h.legal.history k;
}

pub agreeing-tell_equal : AgreeingTellEqual
agreeing-tell_equal w others before after early late k r text other h g same =
    told-machine w before after k r text h ∙ (ap (λ (es : List _). reply k r (solo es)) same ∙ sym (told-machine others early late k r other g))
