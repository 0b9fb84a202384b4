-- What an inquiry keeps, step by step.
use Rattle.std.proofs.Common.{◌≡◌, ℕ, suc, ◌+◌, ◌≤◌, List, [], ◌∷◌, ◌++◌, length, Option, Some, None, Result, Ok, Err, false, true, refl, sym, ap, subst, ◌∙◌, append-nil, arith}
use Rattle.std.specs.Prelude.{IfOk, OnOk}
use Rattle.std.specs.Option.{option_map, option_map_or}
use Rattle.std.proofs.lemmas.List.{length-append, length-map}
use Rattle.mal_base.specs.Limits.{limits}
use Rattle.mal_base.specs.Asks.{Terms}
use Rattle.mal_base.specs.NumberedClause.{Line}
use Rattle.mal_base.specs.declared.hall_fault.OpenFault.{OpenFault}
use Rattle.mal_base.specs.declared.hall_fault.ReviseFault.{ReviseFault}
use Rattle.mal_base.specs.declared.hall_fault.ReviseFault.TheVariants as revising
use Rattle.mal_hall.specs.HallView.{HallView}
use Rattle.mal_hall.specs.Replying.{HasJob}
use Rattle.mal_job.specs.Findings.{Finds, told_by}
use Rattle.mal_job.specs.Replying.{Tells}
use Rattle.mal_job.specs.declared.finding.Finding.{Finding}
use Rattle.mal_report.specs.Told.{body_of}
use Rattle.mal_report.specs.declared.told.Told.{Told}
use Rattle.mal_revision.specs.Posted.{Posted}
use Rattle.spec_report.specs.Replies.{ReplyBody}
use Rattle.spec_job.specs.KeyedJob.{Key, KeyedJob}
use Rattle.spec_job.specs.Replies as replies
use Rattle.spec_job.specs.SoloMachine.{solo}
use Rattle.spec_hall.specs.Calls.{HasCalled, IsOpening, Opens, Revises, wanted}
use Rattle.spec_hall.specs.Driven.{GrowsByTurns, IsAtEnd}
use Rattle.spec_hall.specs.Events.{Event, Revise}
use Rattle.spec_hall.specs.Legal.{Allowed, MayRevise, job_of}
use Rattle.spec_hall.specs.Own.{own}
use Rattle.spec_hall.specs.States.{leases, lives, states, titled}
use Rattle.spec_hall.proofs.PushLemmas.{leases-push}
use Rattle.spec_run.specs.Posting.{IsOpen}
use Rattle.spec_run.proofs.OpenLemmas.{open-found, revised-is_open}
use Rattle.spec_inquiry.specs.Asking.{HasAsked, MayAsk}
use Rattle.spec_inquiry.specs.Rounds.{Round, IsInquiry, revisions_in}
use Rattle.spec_inquiry.specs.Searches.{lines_in, proofs_in}
use Rattle.spec_inquiry.proofs.AskedLemmas.{answered-told, found-is, found-tells, next-round, open-idle, open-wanted, revise-wanted, round-asked}
use Rattle.spec_inquiry.proofs.OpenLemmas.{inquiry-is_open, opened-open, turns-open}
use Rattle.mal_inquiry.specs.InquiryView.{InquiryView, IsKept, IsAnswered, IsLast, HasFound, HasPosted, TellsLast, machine, next_in}

-- a job that is opened in a hall without events is an inquiry of no round, and it is kept
pub opened-inquiry : (workers : ℕ) (past : List Event) (k : Key) (ask : Terms) (history : List Event) → past ≡ [] → HasCalled workers past (Opens k ask) (Ok tt) history → IsInquiry k ask [] history
opened-inquiry workers past k ask history none called =
    let may : IsOpening [] k ask (Ok tt) called.events = subst (λ (h : List Event). IsOpening h k ask (Ok tt) called.events) none called.call in
    record { opened = may.0; asked = called.grown ∙ (ap (λ (h : List Event). h ++ called.events) none ∙ may.1) }

pub new-kept : (hall : HallView) (k : Key) (ask : Terms) → hall.workers ≡ 1 → IsInquiry k ask [] hall.events → IsKept hall k 0
new-kept hall k ask one i = record { alone = one; home = ap leases i.asked; revisions = []; is_open = subst (IsOpen k []) (sym i.asked) (opened-open k ask); counted = refl }

-- what is known of a revision that was posted
pub record Posts (x y : HallView) (k : Key) (asked : ℕ) (r : Posted) : Type 0 where
  pub few : asked + 1 ≤ limits.revisions
  pub posted : HasPosted (record { key = k; events = x.events }) r (record { key = k; events = y.events })
  pub kept : IsKept y k (asked + 1)

pub posts-next : (x y : HallView) (k : Key) (asked : ℕ) (r : Posted) → IsKept x k asked → y.workers ≡ x.workers → HasCalled x.workers x.events (Revises k r) (Ok tt) y.events → Posts x y k asked r
posts-next x y k asked r kept same called = record {
  few = subst (λ (n : ℕ). n + 1 ≤ limits.revisions) (many ∙ sym kept.counted) may.room;
  posted = record {
    may = (t, subst (λ (n : ℕ). MayRevise x.events k n r t) number may);
    grown = grown ∙ ap (λ (n : ℕ). x.events ++ Revise k n r ∷ []) number;
  };
  kept = record {
    alone = same ∙ kept.alone;
    home = ap leases grown ∙ (leases-push x.events (Revise k (length t.state.revisions + 1) r) ∙ kept.home);
    revisions = kept.revisions ++ r ∷ [];
    is_open = subst (IsOpen k (kept.revisions ++ r ∷ [])) (sym grown) (revised-is_open k kept.revisions x.events (length t.state.revisions + 1) r kept.is_open);
    counted = ap (λ (n : ℕ). n + 1) kept.counted ∙ sym (length-append kept.revisions (r ∷ []));
  };
}
  where
    t : KeyedJob
    t = called.call.0

    may : MayRevise x.events k (length t.state.revisions + 1) r t
    may = called.call.1

    grown : y.events ≡ x.events ++ Revise k (length t.state.revisions + 1) r ∷ []
    grown = called.grown ∙ ap (λ (es : List Event). x.events ++ es) called.call.2

    is : t ≡ titled x.events k
    is = found-is k kept.revisions x.events t kept.is_open may.job

    many : length t.state.revisions ≡ length kept.revisions
    many = ap (λ (u : KeyedJob). length u.state.revisions) is ∙ ap (λ (ps : List Posted). length ps) kept.is_open.posted

    number : length t.state.revisions + 1 ≡ next_in (record { key = k; events = x.events })
    number = ap (λ (u : KeyedJob). length u.state.revisions + 1) is

-- turns keep an inquiry
pub turns-kept : (x y : HallView) (k : Key) (asked : ℕ) → IsKept x k asked → y.workers ≡ x.workers → leases y.events ≡ [] → GrowsByTurns x.workers x.events y.events → IsKept y k asked
turns-kept x y k asked kept same home grows = record {
  alone = same ∙ kept.alone;
  home = home;
  revisions = kept.revisions;
  is_open = subst (IsOpen k kept.revisions) (sym grows.grown) (turns-open k kept.revisions x.events grows.turns kept.is_open);
  counted = kept.counted;
}

pub kept-answered : (x : HallView) (k : Key) (asked : ℕ) → IsKept x k asked → IsAtEnd x.events → lives (states x.events) ≡ [] → IsAnswered (record { key = k; events = x.events })
kept-answered x k asked kept end none = record { idle = open-idle k kept.revisions x.events kept.is_open end; none = none }

-- what a hall finds of the last revision the machine tells alone, and something is found of it
pub last-found : (x : HallView) (k : Key) (asked : ℕ) (found : Finding) → IsKept x k asked → HasJob k x.events (Finds asked (Some found)) → IsLast (record { key = k; events = x.events }) found
last-found x k asked found kept has =
    let many : asked ≡ length (solo (own k x.events)).revisions = kept.counted ∙ ap (λ (ps : List Posted). length ps) (sym kept.is_open.posted) in
    (has.2.0, subst (λ (n : ℕ). replies.body_of n (solo (own k x.events)) ≡ Some (told_by has.2.0 found)) many (found-tells k kept.revisions x.events has.0 asked (told_by has.2.0 found) kept.is_open has.1 (sym has.2.1)))

pub last-answered : (x : HallView) (k : Key) (asked : ℕ) → IsKept x k asked → IsAnswered (record { key = k; events = x.events }) → 1 ≤ length (solo (own k x.events)).revisions → HasJob k x.events (Finds asked None) → ⊥
last-answered x k asked kept answered some has =
    let many : length (solo (own k x.events)).revisions ≡ length kept.revisions = ap (λ (ps : List Posted). length ps) kept.is_open.posted in
    answered-told k kept.revisions x.events has.0 asked kept.is_open answered.none has.1 (omega (arith, some, many, kept.counted)) (omega (arith, kept.counted)) has.2

-- the lines that a hall tells of a revision are those of the machine alone
pub lines-told : (x : HallView) (k : Key) (asked r : ℕ) (told : Option Told) (lines : List Line) → IsKept x k asked → HasJob k x.events (Tells r told) → lines ≡ option_map_or lines_in (option_map body_of told) [] → lines ≡ proofs_in k x.events r
lines-told x k asked r told lines kept has e =
    e ∙ (ap (λ (o : Option ReplyBody). option_map_or lines_in o []) has.2
    ∙ ap (λ (t : KeyedJob). option_map_or lines_in (replies.body_of r t.state) []) (found-is k kept.revisions x.events has.0 kept.is_open has.1))

-- there is room after the revisions of the machine where there is after those of the rounds
pub room-behind : (i : InquiryView) (ask : Terms) (rounds : List Round) (r : Posted) → IsInquiry i.key ask rounds i.events → MayAsk (revisions_in rounds) r → MayAsk (machine i).revisions r
room-behind i ask rounds r is may = subst (λ (ps : List Posted). MayAsk ps r) (sym (inquiry-is_open i.key ask rounds i.events is).posted) may

-- a revision that was posted, and turns after it
pub record GoesOn (i j l : InquiryView) (r : Posted) : Type 0 where
  pub posted_key : j.key ≡ i.key
  pub key : l.key ≡ j.key
  pub posted : HasPosted i r j
  pub turns : GrowsByTurns 1 j.events l.events

pub last-number : (i j l : InquiryView) (r : Posted) (ask : Terms) (rounds : List Round) → GoesOn i j l r → IsInquiry i.key ask rounds i.events → length (machine l).revisions ≡ suc (length rounds)
last-number i j l r ask rounds goes is =
    ap (λ (k : Key). length (solo (own k l.events)).revisions) (goes.key ∙ goes.posted_key)
    ∙ (ap (λ (ps : List Posted). length ps) open_then.posted
    ∙ (length-append (revisions_in rounds) (r ∷ []) ∙ (ap (λ (n : ℕ). n + 1) (length-map rounds (λ (x : Round). x.asked.revision)) ∙ one-more (length rounds))))
  where
    one-more : (n : ℕ) → n + 1 ≡ suc n
    one-more n = omega arith

    open_now : IsOpen i.key (revisions_in rounds ++ r ∷ []) j.events
    open_now = subst (IsOpen i.key (revisions_in rounds ++ r ∷ [])) (sym goes.posted.grown) (revised-is_open i.key (revisions_in rounds) i.events (next_in i) r (inquiry-is_open i.key ask rounds i.events is))

    open_then : IsOpen i.key (revisions_in rounds ++ r ∷ []) l.events
    open_then = subst (IsOpen i.key (revisions_in rounds ++ r ∷ [])) (sym goes.turns.grown) (turns-open i.key (revisions_in rounds ++ r ∷ []) j.events goes.turns.turns open_now)

pub some-last : (i j l : InquiryView) (r : Posted) (ask : Terms) (rounds : List Round) → GoesOn i j l r → IsInquiry i.key ask rounds i.events → 1 ≤ length (machine l).revisions
some-last i j l r ask rounds goes is = let many = last-number i j l r ask rounds goes is in omega (arith, many)

-- the round that came
pub asked-round : (i j l : InquiryView) (r : Posted) (told : ReplyBody) → GoesOn i j l r → IsAnswered l → TellsLast l told → (ask : Terms) (rounds : List Round) → IsInquiry i.key ask rounds i.events → HasAsked i.key ask rounds (record { revision = r; told = told }) l.events
asked-round i j l r told goes answered tells ask rounds is = round-asked i.key ask rounds i.events r told l.events is may turns answered.idle told_now
  where
    one-more : (n m : ℕ) → n ≡ m → n + 1 ≡ suc m
    one-more n m e = omega arith

    number : next_in i ≡ suc (length rounds)
    number = one-more (length (machine i).revisions) (length rounds) (next-round i.key ask rounds i.events is)

    may : Allowed 1 i.events (Revise i.key (suc (length rounds)) r)
    may = subst (λ (n : ℕ). Allowed 1 i.events (Revise i.key n r)) number goes.posted.may

    turns : GrowsByTurns 1 (i.events ++ Revise i.key (suc (length rounds)) r ∷ []) l.events
    turns = subst (λ (n : ℕ). GrowsByTurns 1 (i.events ++ Revise i.key n r ∷ []) l.events) number (subst (λ (h : List Event). GrowsByTurns 1 h l.events) goes.posted.grown goes.turns)

    told_now : replies.body_of (suc (length rounds)) (solo (own i.key l.events)) ≡ Some told
    told_now =
        subst (λ (k : Key). replies.body_of (suc (length rounds)) (solo (own k l.events)) ≡ Some told) (goes.key ∙ goes.posted_key)
        (subst (λ (n : ℕ). replies.body_of n (machine l) ≡ Some told) (last-number i j l r ask rounds goes is) tells)

-- why a hall refuses is out of memory
pub opening-wanted : (workers : ℕ) (past : List Event) (k : Key) (ask : Terms) (fault : OpenFault) (history : List Event) → past ≡ [] → HasCalled workers past (Opens k ask) (Err fault) history → false ≡ wanted (Opens k ask) (Err fault) → ⊥
opening-wanted workers past k ask fault history none called other =
    let may : IsOpening [] k ask (Err fault) called.events = subst (λ (h : List Event). IsOpening h k ask (Err fault) called.events) none called.call in
    let bad : false ≡ true = other ∙ open-wanted k ask fault called.events may in
    absurd (cc)

pub revising-wanted : (x : HallView) (k : Key) (asked : ℕ) (r : Posted) (fault : ReviseFault) (history : List Event) → IsKept x k asked → MayAsk (solo (own k x.events)).revisions r → HasCalled x.workers x.events (Revises k r) (Err fault) history → false ≡ wanted (Revises k r) (Err fault) → ⊥
revising-wanted x k asked r fault history kept may called other =
    let bad : false ≡ true = other ∙ revise-wanted k kept.revisions x.events r fault called.events kept.is_open (subst (λ (ps : List Posted). MayAsk ps r) kept.is_open.posted may) called.call in
    absurd (cc)

-- and then nothing is entered
pub revising-same : (workers : ℕ) (past : List Event) (k : Key) (r : Posted) (history : List Event) → HasCalled workers past (Revises k r) (Err revising.OutOfMemory) history → history ≡ past
revising-same workers past k r history called = called.grown ∙ (ap (λ (es : List Event). past ++ es) called.call.2 ∙ append-nil past)

pub job-there : (x : HallView) (k : Key) (asked : ℕ) → IsKept x k asked → job_of k (states x.events) ≡ None → ⊥
job-there x k asked kept none = let bad : None ≡ Some (titled x.events k) = sym none ∙ open-found k kept.revisions x.events kept.is_open in absurd (cc)

-- by what calls answer
pub answered-on : {E : Type 0} (result : Result (Unit {0}) E) (x : HallView) (k : Key) (asked : ℕ) → IsKept x k asked → OnOk result (IsAtEnd x.events) → OnOk result (lives (states x.events) ≡ []) → OnOk result (IsAnswered (record { key = k; events = x.events }))
answered-on (Ok done) x k asked kept end none = kept-answered x k asked kept end none
answered-on (Err e) x k asked kept end none = tt

pub asked-on : {E : Type 0} (result : Result Finding E) (i j l : InquiryView) (r : Posted) → GoesOn i j l r → IsAnswered l → IfOk result (λ found. IsLast l found) → (ask : Terms) (rounds : List Round) → IsInquiry i.key ask rounds i.events → IfOk result (λ found. HasFound i.key ask rounds r found l.events)
asked-on (Ok found) i j l r goes answered last ask rounds is = (last.0, asked-round i j l r (told_by last.0 found) goes answered last.1 ask rounds is)
asked-on (Err e) i j l r goes answered last ask rounds is = tt
