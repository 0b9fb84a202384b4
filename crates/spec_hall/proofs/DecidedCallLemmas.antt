-- A call's answer and its events are decided by the history and by whether memory ran out.
use Rattle.std.proofs.Common.{◌≡◌, ℕ, ◌+◌, ◌<◌, ◌≤◌, true, false, ◌==◌, List, [], ◌∷◌, ◌++◌, length, Option, Some, None, is_some, refl, sym, ◌∙◌, ap, subst, arith, append_assoc, append-nil}
use Rattle.std.specs.Prelude.{Result, Ok, Err}
use Rattle.std.specs.List.{list_all, list_any}
use Rattle.std.proofs.lemmas.Bool.{and_parts, both_ways, eqb-true}
use Rattle.mal_base.specs.Limits.{limits}
use Rattle.mal_base.specs.Asks.{Terms, Weighed}
use Rattle.mal_base.specs.declared.limit_kind.LimitKind.{LimitKind}
use Rattle.mal_base.specs.declared.limit_kind.LimitKind.TheVariants.{Variables, Clauses, Literals, Tenants, Jobs, Revisions}
use Rattle.mal_revision.specs.Posted.{Posted}
use Rattle.spec_job.specs.Leased.{Finished}
use Rattle.spec_job.specs.Replies.{reply}
use Rattle.spec_job.specs.KeyedJob.{Key, KeyedJob}
use Rattle.spec_job.specs.SoloMachine.{Own}
use Rattle.mal_base.specs.declared.hall_fault.OpenFault.{OpenFault}
use Rattle.mal_base.specs.declared.hall_fault.OpenFault.TheVariants as opening
use Rattle.mal_base.specs.declared.hall_fault.ReviseFault.{ReviseFault}
use Rattle.mal_base.specs.declared.hall_fault.ReviseFault.TheVariants as revising
use Rattle.mal_base.specs.declared.hall_fault.ReaskFault.{ReaskFault}
use Rattle.mal_base.specs.declared.hall_fault.ReaskFault.TheVariants as reasking
use Rattle.mal_base.specs.declared.hall_fault.CloseFault.{CloseFault}
use Rattle.mal_base.specs.declared.hall_fault.CloseFault.TheVariants as closing
use Rattle.mal_base.specs.declared.hall_fault.PickFault.{PickFault}
use Rattle.mal_base.specs.declared.hall_fault.PickFault.TheVariants as picking
use Rattle.mal_base.specs.declared.hall_fault.ReplyFault.{ReplyFault}
use Rattle.mal_base.specs.declared.hall_fault.ReplyFault.TheVariants as asking
use Rattle.mal_base.specs.declared.hall_fault.PackFault.{PackFault}
use Rattle.mal_base.specs.declared.hall_fault.PackFault.TheVariants as packing
use Rattle.mal_base.specs.declared.hall_fault.AdmitFault.{AdmitFault}
use Rattle.mal_base.specs.declared.hall_fault.AdmitFault.TheVariants as admitting
use Rattle.spec_hall.specs.Calls.{Call, AnswerTo, Opens, Revises, Reasks, Closes, Picks, Finishes, Recalls, Asks, Packs, Admits, Leaves, Handed, Offer, Leased, Idle, AllDone, Return, Back, Strange, AreDue, arranges, is_over, handed, IsStarting, IsWaiting, IsOpening, IsRevising, IsReasking, IsClosing, IsPicking, IsReturning, IsAsking, IsPacking, IsAdmitting, first_out, CallIsDecided, wanted}
use Rattle.spec_hall.specs.Driven.{IsCalm, is_done}
use Rattle.spec_hall.specs.Events.{Event, Open, Revise, Reask, Close, Balance, Start, Finish, Exchange, Leave, Arrive}
use Rattle.spec_hall.specs.Legal.{Allowed, LegalFrom, MayRevise, job_of}
use Rattle.spec_hall.specs.Own.{is_key}
use Rattle.spec_hall.specs.Room.{IsOver}
use Rattle.spec_hall.specs.States.{LeaseOut, leases, lease_of, names_of, picked, states}
use Rattle.spec_hall.proofs.DrivenLemmas.{balances-decided, exchanges-decided, nodes-decided}

-- what is there is not absent
there-not : {X : Type 0} (o : Option X) → is_some o ≡ true → o ≡ None → ⊥
there-not None there none = absurd (cc)
there-not (Some x) there none = absurd (cc)

found-not : {X : Type 0} (o : Option X) (x : X) → o ≡ Some x → o ≡ None → ⊥
found-not None x found none = absurd (cc)
found-not (Some y) x found none = absurd (cc)

-- what is found is one
found-same : {X : Type 0} (o : Option X) (x y : X) → o ≡ Some x → o ≡ Some y → x ≡ y
found-same o x y found also = let both : Some x ≡ Some y = sym found ∙ also in cc

-- a balancing or an exchange that is allowed is decided by the past
arranged-decided : (w : ℕ) (past : List Event) (e f : Event) → arranges e ≡ true → arranges f ≡ true → Allowed w past e → Allowed w past f → e ≡ f
arranged-decided w past (Open k ask) f kind other may might = absurd (cc)
arranged-decided w past (Revise k number r) f kind other may might = absurd (cc)
arranged-decided w past (Reask k weight) f kind other may might = absurd (cc)
arranged-decided w past (Close k) f kind other may might = absurd (cc)
arranged-decided w past (Start k index worker) f kind other may might = absurd (cc)
arranged-decided w past (Finish k index worker outcome) f kind other may might = absurd (cc)
arranged-decided w past (Leave k) f kind other may might = absurd (cc)
arranged-decided w past (Arrive k brought) f kind other may might = absurd (cc)
arranged-decided w past (Balance shares) (Open k ask) kind other may might = absurd (cc)
arranged-decided w past (Balance shares) (Revise k number r) kind other may might = absurd (cc)
arranged-decided w past (Balance shares) (Reask k weight) kind other may might = absurd (cc)
arranged-decided w past (Balance shares) (Close k) kind other may might = absurd (cc)
arranged-decided w past (Balance shares) (Balance given) kind other may might = ap Balance (balances-decided w past shares given may might)
arranged-decided w past (Balance shares) (Start k index worker) kind other may might = absurd (cc)
arranged-decided w past (Balance shares) (Finish k index worker outcome) kind other may might = absurd (cc)
arranged-decided w past (Balance shares) (Exchange k) kind other may might = absurd (may.due might.1.balance)
arranged-decided w past (Balance shares) (Leave k) kind other may might = absurd (cc)
arranged-decided w past (Balance shares) (Arrive k brought) kind other may might = absurd (cc)
arranged-decided w past (Exchange j) (Open k ask) kind other may might = absurd (cc)
arranged-decided w past (Exchange j) (Revise k number r) kind other may might = absurd (cc)
arranged-decided w past (Exchange j) (Reask k weight) kind other may might = absurd (cc)
arranged-decided w past (Exchange j) (Close k) kind other may might = absurd (cc)
arranged-decided w past (Exchange j) (Balance given) kind other may might = absurd (might.due may.1.balance)
arranged-decided w past (Exchange j) (Start k index worker) kind other may might = absurd (cc)
arranged-decided w past (Exchange j) (Finish k index worker outcome) kind other may might = absurd (cc)
arranged-decided w past (Exchange j) (Exchange k) kind other may might = ap Exchange (exchanges-decided past j k may.0 might.0 may.1 might.1)
arranged-decided w past (Exchange j) (Leave k) kind other may might = absurd (cc)
arranged-decided w past (Exchange j) (Arrive k brought) kind other may might = absurd (cc)

-- none is allowed where nothing is due
calm-none : (w : ℕ) (past : List Event) (e : Event) → IsCalm past → arranges e ≡ true → Allowed w past e → ⊥
calm-none w past (Open k ask) calm kind may = absurd (cc)
calm-none w past (Revise k number r) calm kind may = absurd (cc)
calm-none w past (Reask k weight) calm kind may = absurd (cc)
calm-none w past (Close k) calm kind may = absurd (cc)
calm-none w past (Balance shares) calm kind may = may.due calm.balance
calm-none w past (Start k index worker) calm kind may = absurd (cc)
calm-none w past (Finish k index worker outcome) calm kind may = absurd (cc)
calm-none w past (Exchange k) calm kind may = found-not _ may.0 may.1.first calm.exchange
calm-none w past (Leave k) calm kind may = absurd (cc)
calm-none w past (Arrive k brought) calm kind may = absurd (cc)

-- what is due until nothing is due is decided by the past
dues-decided : (w : ℕ) (past es fs : List Event) → list_all arranges es ≡ true → list_all arranges fs ≡ true → LegalFrom w past es → LegalFrom w past fs → IsCalm (past ++ es) → IsCalm (past ++ fs) → es ≡ fs
dues-decided w past [] [] kinds others may might calm still = refl
dues-decided w past [] (f ∷ fs) kinds others may might calm still = absurd (calm-none w past f (subst IsCalm (append-nil past) calm) (and_parts (arranges f) (list_all arranges fs) others).0 might.0)
dues-decided w past (e ∷ es) [] kinds others may might calm still = absurd (calm-none w past e (subst IsCalm (append-nil past) still) (and_parts (arranges e) (list_all arranges es) kinds).0 may.0)
dues-decided w past (e ∷ es) (f ∷ fs) kinds others may might calm still =
    let mine = and_parts (arranges e) (list_all arranges es) kinds in
    let other = and_parts (arranges f) (list_all arranges fs) others in
    let same : e ≡ f = arranged-decided w past e f mine.0 other.0 may.0 might.0 in
    let later : LegalFrom w (past ++ e ∷ []) fs = subst (λ (x : Event). LegalFrom w (past ++ x ∷ []) fs) (sym same) might.1 in
    let quiet : IsCalm ((past ++ e ∷ []) ++ es) = subst IsCalm (sym (append_assoc past (e ∷ []) es)) calm in
    let silent : IsCalm ((past ++ e ∷ []) ++ fs) = subst (λ (x : Event). IsCalm ((past ++ x ∷ []) ++ fs)) (sym same) (subst IsCalm (sym (append_assoc past (f ∷ []) fs)) still) in
    ap (λ (x : Event). x ∷ es) same ∙ ap (λ (xs : List Event). f ∷ xs) (dues-decided w (past ++ e ∷ []) es fs mine.1 other.1 may.1 later quiet silent)

due-decided : (w : ℕ) (past es fs : List Event) → AreDue w past es → AreDue w past fs → IsCalm (past ++ es) → IsCalm (past ++ fs) → es ≡ fs
due-decided w past es fs due other calm still = dues-decided w past es fs due.kinds other.kinds due.legal other.legal calm still

-- nothing is due where a node starts
start-calm : (w : ℕ) (past : List Event) (k : Key) (index worker : ℕ) → Allowed w past (Start k index worker) → IsCalm past
start-calm w past k index worker may = record { balance = may.1.balance; exchange = may.1.exchange }

-- a node that starts is decided with what is due before it
same-starts : (w worker : ℕ) (past due other : List Event) (k j : Key) (index place : ℕ) → due ≡ other → Allowed w (past ++ due) (Start k index worker) → Allowed w (past ++ other) (Start j place worker) → (k ≡ j) × (index ≡ place)
same-starts w worker past due other k j index place same may might =
    let there : Allowed w (past ++ due) (Start j place worker) = subst (λ (xs : List Event). Allowed w (past ++ xs) (Start j place worker)) (sym same) might in
    nodes-decided w (past ++ due) k j index place worker worker may.0 there.0 may.1 there.1

-- so is a start after what is due, with the lease that is handed out
starting-decided : (w : ℕ) (past : List Event) (worker : ℕ) (one other : Handed) (es fs : List Event) → IsStarting w past worker one es → IsStarting w past worker other fs → (one ≡ other) × (es ≡ fs)
starting-decided w past worker one other es fs a b =
    let due : a.due ≡ b.due = due-decided w past a.due b.due a.first b.first (start-calm w (past ++ a.due) a.key a.index worker a.start) (start-calm w (past ++ b.due) b.key b.index worker b.start) in
    let node = same-starts w worker past a.due b.due a.key b.key a.index b.index due a.start b.start in
    let events : es ≡ fs = a.events ∙ (all-same a.due b.due a.key b.key a.index b.index due node.0 node.1 ∙ sym b.events) in
    (a.lease_is ∙ (handed-same es fs a.key b.key a.index b.index events node.0 node.1 ∙ sym b.lease_is), events)
  where
    all-same : (xs ys : List Event) (k j : Key) (i n : ℕ) → xs ≡ ys → k ≡ j → i ≡ n → xs ++ Start k i worker ∷ [] ≡ ys ++ Start j n worker ∷ []
    all-same xs ys k j i n p q r = rw (p, q, r) refl

    handed-same : (xs ys : List Event) (k j : Key) (i n : ℕ) → xs ≡ ys → k ≡ j → i ≡ n → handed (past ++ xs) (record { worker = worker; key = k; index = i }) ≡ handed (past ++ ys) (record { worker = worker; key = j; index = n })
    handed-same xs ys k j i n p q r = rw (p, q, r) refl

-- so are the events where no node may start
waiting-decided : (w : ℕ) (past : List Event) (worker : ℕ) (es fs : List Event) → IsWaiting w past worker es → IsWaiting w past worker fs → es ≡ fs
waiting-decided w past worker es fs a b = due-decided w past es fs a.due b.due a.idle.calm b.idle.calm

-- where a node starts there is no waiting
starting-waits : (w : ℕ) (past : List Event) (worker : ℕ) (lease : Handed) (es fs : List Event) → IsStarting w past worker lease es → IsWaiting w past worker fs → ⊥
starting-waits w past worker lease es fs a b =
    let due : a.due ≡ fs = due-decided w past a.due fs a.first b.due (start-calm w (past ++ a.due) a.key a.index worker a.start) b.idle.calm in
    let none : picked (states (past ++ a.due)) ≡ None = ap (λ (xs : List Event). picked (states (past ++ xs))) due ∙ b.idle.none in
    found-not (picked (states (past ++ a.due))) a.start.0 a.start.1.first none

-- where all is over no worker has a lease
over-none : (past : List Event) (worker : ℕ) → is_over past ≡ true → is_some (lease_of worker (leases past)) ≡ true → ⊥
over-none past worker over there = by_leases (leases past) refl there
  where
    by_leases : (ls : List LeaseOut) → leases past ≡ ls → is_some (lease_of worker ls) ≡ true → ⊥
    by_leases [] e t = absurd (cc)
    by_leases (l ∷ ls) e t = let none : length (l ∷ ls) ≡ 0 = eqb-true (length (l ∷ ls)) 0 (and_parts (is_done (states past)) (length (l ∷ ls) == 0) (rw e at over)).1 in absurd (omega (arith, none))

-- both answers are the same, and so are the events
abbrev Decided : (c : Call) (one other : AnswerTo c) → List Event → List Event → Type 0
Decided c one other es fs = (one ≡ other) × (wanted c one ≡ false → es ≡ fs)

no-events : (es fs : List Event) → es ≡ [] → fs ≡ [] → es ≡ fs
no-events es fs none empty = none ∙ sym empty

-- a pick is decided
picks-decided : (w : ℕ) (past : List Event) (worker : ℕ) (one other : Result Offer PickFault) (es fs : List Event) → IsPicking w past worker one es → IsPicking w past worker other fs → wanted (Picks worker) one ≡ wanted (Picks worker) other → Decided (Picks worker) one other es fs
picks-decided w past worker (Ok (Leased one)) (Ok (Leased other)) es fs a b same = let both = starting-decided w past worker one other es fs a b in (ap (λ (l : Handed). Ok (Leased l)) both.0, λ m. both.1)
picks-decided w past worker (Ok (Leased one)) (Ok Idle) es fs a b same = absurd (starting-waits w past worker one es fs a b)
picks-decided w past worker (Ok (Leased one)) (Ok AllDone) es fs a b same = absurd (both_ways (is_over past) a.may.more b.0)
picks-decided w past worker (Ok (Leased one)) (Err picking.Busy) es fs a b same = absurd (there-not (lease_of worker (leases past)) b.0 a.may.free)
picks-decided w past worker (Ok (Leased one)) (Err picking.OutOfMemory) es fs a b same = absurd (cc)
picks-decided w past worker (Ok Idle) (Ok (Leased other)) es fs a b same = absurd (starting-waits w past worker other fs es b a)
picks-decided w past worker (Ok Idle) (Ok Idle) es fs a b same = (refl, λ m. waiting-decided w past worker es fs a b)
picks-decided w past worker (Ok Idle) (Ok AllDone) es fs a b same = absurd (both_ways (is_over past) a.may.more b.0)
picks-decided w past worker (Ok Idle) (Err picking.Busy) es fs a b same = absurd (there-not (lease_of worker (leases past)) b.0 a.may.free)
picks-decided w past worker (Ok Idle) (Err picking.OutOfMemory) es fs a b same = absurd (cc)
picks-decided w past worker (Ok AllDone) (Ok (Leased other)) es fs a b same = absurd (both_ways (is_over past) b.may.more a.0)
picks-decided w past worker (Ok AllDone) (Ok Idle) es fs a b same = absurd (both_ways (is_over past) b.may.more a.0)
picks-decided w past worker (Ok AllDone) (Ok AllDone) es fs a b same = (refl, λ m. no-events es fs a.1 b.1)
picks-decided w past worker (Ok AllDone) (Err picking.Busy) es fs a b same = absurd (over-none past worker a.0 b.0)
picks-decided w past worker (Ok AllDone) (Err picking.OutOfMemory) es fs a b same = absurd (cc)
picks-decided w past worker (Err picking.Busy) (Ok (Leased other)) es fs a b same = absurd (there-not (lease_of worker (leases past)) a.0 b.may.free)
picks-decided w past worker (Err picking.Busy) (Ok Idle) es fs a b same = absurd (there-not (lease_of worker (leases past)) a.0 b.may.free)
picks-decided w past worker (Err picking.Busy) (Ok AllDone) es fs a b same = absurd (over-none past worker b.0 a.0)
picks-decided w past worker (Err picking.Busy) (Err picking.Busy) es fs a b same = (refl, λ m. no-events es fs a.1 b.1)
picks-decided w past worker (Err picking.Busy) (Err picking.OutOfMemory) es fs a b same = absurd (cc)
picks-decided w past worker (Err picking.OutOfMemory) (Ok offer) es fs a b same = absurd (cc)
picks-decided w past worker (Err picking.OutOfMemory) (Err picking.Busy) es fs a b same = absurd (cc)
picks-decided w past worker (Err picking.OutOfMemory) (Err picking.OutOfMemory) es fs a b same = (refl, λ m. absurd (cc))

-- so is what is answered to what came of a lease
returns-decided : (w : ℕ) (past : List Event) (d : Finished) (one other : Return) (es fs : List Event) → IsReturning past d one es → IsReturning past d other fs → Decided (Finishes d) one other es fs
returns-decided w past d Back Back es fs a b =
    let same : a.0 ≡ b.0 = found-same (lease_of d.worker (leases past)) a.0 b.0 a.1.out b.1.out in
    (refl, λ m. a.2 ∙ (ap (λ (l : LeaseOut). Finish l.key l.index d.worker d.outcome ∷ []) same ∙ sym b.2))
returns-decided w past d Back (Strange kept) es fs a b = absurd (b.0 a.0 a.1)
returns-decided w past d (Strange kept) Back es fs a b = absurd (a.0 b.0 b.1)
returns-decided w past d (Strange kept) (Strange left) es fs a b = (ap Strange (a.1 ∙ sym b.1), λ m. no-events es fs a.2 b.2)

-- so is the reply to a revision
asks-decided : (w : ℕ) (past : List Event) (k : Key) (r : ℕ) (one other : Result (Option (List ℕ)) ReplyFault) (es fs : List Event) → IsAsking past k r one es → IsAsking past k r other fs → wanted (Asks k r) one ≡ wanted (Asks k r) other → Decided (Asks k r) one other es fs
asks-decided w past k r (Ok one) (Ok other) es fs a b same =
    let job : a.0 ≡ b.0 = found-same (job_of k (states past)) a.0 b.0 a.1 b.1 in
    (ap Ok (a.2 ∙ (ap (λ (t : KeyedJob). reply k r t.state) job ∙ sym b.2)), λ m. no-events es fs a.3 b.3)
asks-decided w past k r (Ok one) (Err asking.NoJob) es fs a b same = absurd (found-not (job_of k (states past)) a.0 a.1 b.0)
asks-decided w past k r (Ok one) (Err asking.OutOfMemory) es fs a b same = absurd (cc)
asks-decided w past k r (Err asking.NoJob) (Ok other) es fs a b same = absurd (found-not (job_of k (states past)) b.0 b.1 a.0)
asks-decided w past k r (Err asking.NoJob) (Err asking.NoJob) es fs a b same = (refl, λ m. no-events es fs a.1 b.1)
asks-decided w past k r (Err asking.NoJob) (Err asking.OutOfMemory) es fs a b same = absurd (cc)
asks-decided w past k r (Err asking.OutOfMemory) (Ok other) es fs a b same = absurd (cc)
asks-decided w past k r (Err asking.OutOfMemory) (Err asking.NoJob) es fs a b same = absurd (cc)
asks-decided w past k r (Err asking.OutOfMemory) (Err asking.OutOfMemory) es fs a b same = (refl, λ m. absurd (cc))

-- a job is not both closed and open
closed-open : (t u : KeyedJob) → t ≡ u → t.state.closed ≡ true → u.state.closed ≡ false → ⊥
closed-open t u same closed open_still = both_ways u.state.closed open_still (ap (λ (x : KeyedJob). x.state.closed) (sym same) ∙ closed)

-- so is a close
closes-decided : (w : ℕ) (past : List Event) (k : Key) (one other : Result (Unit {0}) CloseFault) (es fs : List Event) → IsClosing past k one es → IsClosing past k other fs → Decided (Closes k) one other es fs
closes-decided w past k (Ok done) (Ok made) es fs a b = (refl, λ m. a.2 ∙ sym b.2)
closes-decided w past k (Ok done) (Err closing.NoJob) es fs a b = absurd (found-not (job_of k (states past)) a.0 a.1.job b.0)
closes-decided w past k (Ok done) (Err closing.Closed) es fs a b =
    absurd (closed-open b.0 a.0 (found-same (job_of k (states past)) b.0 a.0 b.1 a.1.job) b.2 a.1.open_still)
closes-decided w past k (Err closing.NoJob) (Ok made) es fs a b = absurd (found-not (job_of k (states past)) b.0 b.1.job a.0)
closes-decided w past k (Err closing.NoJob) (Err closing.NoJob) es fs a b = (refl, λ m. no-events es fs a.1 b.1)
closes-decided w past k (Err closing.NoJob) (Err closing.Closed) es fs a b = absurd (found-not (job_of k (states past)) b.0 b.1 a.0)
closes-decided w past k (Err closing.Closed) (Ok made) es fs a b =
    absurd (closed-open a.0 b.0 (found-same (job_of k (states past)) a.0 b.0 a.1 b.1.job) a.2 b.1.open_still)
closes-decided w past k (Err closing.Closed) (Err closing.NoJob) es fs a b = absurd (found-not (job_of k (states past)) a.0 a.1 b.0)
closes-decided w past k (Err closing.Closed) (Err closing.Closed) es fs a b = (refl, λ m. no-events es fs a.3 b.3)

-- so is an ask that changes
reasks-decided : (w : ℕ) (past : List Event) (k : Key) (weight : Weighed) (one other : Result (Unit {0}) ReaskFault) (es fs : List Event) → IsReasking past k weight one es → IsReasking past k weight other fs → wanted (Reasks k weight) one ≡ wanted (Reasks k weight) other → Decided (Reasks k weight) one other es fs
reasks-decided w past k weight (Ok done) (Ok made) es fs a b same = (refl, λ m. a.2 ∙ sym b.2)
reasks-decided w past k weight (Ok done) (Err reasking.NoJob) es fs a b same = absurd (found-not (job_of k (states past)) a.0 a.1.job b.0)
reasks-decided w past k weight (Ok done) (Err reasking.Closed) es fs a b same =
    absurd (closed-open b.0 a.0 (found-same (job_of k (states past)) b.0 a.0 b.1 a.1.job) b.2 a.1.open_still)
reasks-decided w past k weight (Ok done) (Err reasking.OutOfMemory) es fs a b same = absurd (cc)
reasks-decided w past k weight (Err reasking.NoJob) (Ok made) es fs a b same = absurd (found-not (job_of k (states past)) b.0 b.1.job a.0)
reasks-decided w past k weight (Err reasking.NoJob) (Err reasking.NoJob) es fs a b same = (refl, λ m. no-events es fs a.1 b.1)
reasks-decided w past k weight (Err reasking.NoJob) (Err reasking.Closed) es fs a b same = absurd (found-not (job_of k (states past)) b.0 b.1 a.0)
reasks-decided w past k weight (Err reasking.NoJob) (Err reasking.OutOfMemory) es fs a b same = absurd (cc)
reasks-decided w past k weight (Err reasking.Closed) (Ok made) es fs a b same =
    absurd (closed-open a.0 b.0 (found-same (job_of k (states past)) a.0 b.0 a.1 b.1.job) a.2 b.1.open_still)
reasks-decided w past k weight (Err reasking.Closed) (Err reasking.NoJob) es fs a b same = absurd (found-not (job_of k (states past)) a.0 a.1 b.0)
reasks-decided w past k weight (Err reasking.Closed) (Err reasking.Closed) es fs a b same = (refl, λ m. no-events es fs a.3 b.3)
reasks-decided w past k weight (Err reasking.Closed) (Err reasking.OutOfMemory) es fs a b same = absurd (cc)
reasks-decided w past k weight (Err reasking.OutOfMemory) (Ok made) es fs a b same = absurd (cc)
reasks-decided w past k weight (Err reasking.OutOfMemory) (Err reasking.NoJob) es fs a b same = absurd (cc)
reasks-decided w past k weight (Err reasking.OutOfMemory) (Err reasking.Closed) es fs a b same = absurd (cc)
reasks-decided w past k weight (Err reasking.OutOfMemory) (Err reasking.OutOfMemory) es fs a b same = (refl, λ m. absurd (cc))

-- so is an open
opens-decided : (w : ℕ) (past : List Event) (k : Key) (ask : Terms) (one other : Result (Unit {0}) OpenFault) (es fs : List Event) → IsOpening past k ask one es → IsOpening past k ask other fs → wanted (Opens k ask) one ≡ wanted (Opens k ask) other → Decided (Opens k ask) one other es fs
opens-decided w past k ask (Ok done) (Ok made) es fs a b same = (refl, λ m. a.1 ∙ sym b.1)
opens-decided w past k ask (Ok done) (Err opening.Duplicate) es fs a b same = absurd (both_ways (list_any (is_key k) (names_of past)) a.0.fresh b.0)
opens-decided w past k ask (Ok done) (Err opening.TenantFull) es fs a b same = absurd (omega (arith, a.0.tenant_room, b.1))
opens-decided w past k ask (Ok done) (Err opening.HallFull) es fs a b same = absurd (omega (arith, a.0.hall_room b.1, b.2))
opens-decided w past k ask (Ok done) (Err opening.OutOfMemory) es fs a b same = absurd (cc)
opens-decided w past k ask (Err opening.Duplicate) (Ok made) es fs a b same = absurd (both_ways (list_any (is_key k) (names_of past)) b.0.fresh a.0)
opens-decided w past k ask (Err opening.Duplicate) (Err opening.Duplicate) es fs a b same = (refl, λ m. no-events es fs a.1 b.1)
opens-decided w past k ask (Err opening.Duplicate) (Err opening.TenantFull) es fs a b same = absurd (both_ways (list_any (is_key k) (names_of past)) b.0 a.0)
opens-decided w past k ask (Err opening.Duplicate) (Err opening.HallFull) es fs a b same = absurd (both_ways (list_any (is_key k) (names_of past)) b.0 a.0)
opens-decided w past k ask (Err opening.Duplicate) (Err opening.OutOfMemory) es fs a b same = absurd (cc)
opens-decided w past k ask (Err opening.TenantFull) (Ok made) es fs a b same = absurd (omega (arith, b.0.tenant_room, a.1))
opens-decided w past k ask (Err opening.TenantFull) (Err opening.Duplicate) es fs a b same = absurd (both_ways (list_any (is_key k) (names_of past)) a.0 b.0)
opens-decided w past k ask (Err opening.TenantFull) (Err opening.TenantFull) es fs a b same = (refl, λ m. no-events es fs a.2 b.2)
opens-decided w past k ask (Err opening.TenantFull) (Err opening.HallFull) es fs a b same = absurd (omega (arith, a.1, b.1))
opens-decided w past k ask (Err opening.TenantFull) (Err opening.OutOfMemory) es fs a b same = absurd (cc)
opens-decided w past k ask (Err opening.HallFull) (Ok made) es fs a b same = absurd (omega (arith, b.0.hall_room a.1, a.2))
opens-decided w past k ask (Err opening.HallFull) (Err opening.Duplicate) es fs a b same = absurd (both_ways (list_any (is_key k) (names_of past)) a.0 b.0)
opens-decided w past k ask (Err opening.HallFull) (Err opening.TenantFull) es fs a b same = absurd (omega (arith, a.1, b.1))
opens-decided w past k ask (Err opening.HallFull) (Err opening.HallFull) es fs a b same = (refl, λ m. no-events es fs a.3 b.3)
opens-decided w past k ask (Err opening.HallFull) (Err opening.OutOfMemory) es fs a b same = absurd (cc)
opens-decided w past k ask (Err opening.OutOfMemory) (Ok made) es fs a b same = absurd (cc)
opens-decided w past k ask (Err opening.OutOfMemory) (Err opening.Duplicate) es fs a b same = absurd (cc)
opens-decided w past k ask (Err opening.OutOfMemory) (Err opening.TenantFull) es fs a b same = absurd (cc)
opens-decided w past k ask (Err opening.OutOfMemory) (Err opening.HallFull) es fs a b same = absurd (cc)
opens-decided w past k ask (Err opening.OutOfMemory) (Err opening.OutOfMemory) es fs a b same = (refl, λ m. absurd (cc))

-- a job has more of one thing than it may have
over-decided : (which other : LimitKind) (rs : List Posted) (r : Posted) → IsOver which rs r → IsOver other rs r → which ≡ other
over-decided Variables other rs r a b = absurd a
over-decided Tenants other rs r a b = absurd a
over-decided Jobs other rs r a b = absurd a
over-decided Revisions other rs r a b = absurd a
over-decided Clauses Variables rs r a b = absurd b
over-decided Clauses Clauses rs r a b = refl
over-decided Clauses Literals rs r a b = absurd (omega (arith, a, b.0))
over-decided Clauses Tenants rs r a b = absurd b
over-decided Clauses Jobs rs r a b = absurd b
over-decided Clauses Revisions rs r a b = absurd b
over-decided Literals Variables rs r a b = absurd b
over-decided Literals Clauses rs r a b = absurd (omega (arith, a.0, b))
over-decided Literals Literals rs r a b = refl
over-decided Literals Tenants rs r a b = absurd b
over-decided Literals Jobs rs r a b = absurd b
over-decided Literals Revisions rs r a b = absurd b

-- where a revision may come a job has no more than it may have
over-room : (which : LimitKind) (past : List Event) (k : Key) (number : ℕ) (r : Posted) (t : KeyedJob) → MayRevise past k number r t → IsOver which t.state.revisions r → ⊥
over-room Variables past k number r t may over = over
over-room Clauses past k number r t may over = omega (arith, may.clause_room, over)
over-room Literals past k number r t may over = omega (arith, may.literal_room, over.1)
over-room Tenants past k number r t may over = over
over-room Jobs past k number r t may over = over
over-room Revisions past k number r t may over = over

-- of the other causes of a refusal none holds where a revision may come, and no two hold
few-full : (t u : KeyedJob) → t ≡ u → length t.state.revisions < limits.revisions → limits.revisions ≤ length u.state.revisions → ⊥
few-full t u same few full = let equal : length t.state.revisions ≡ length u.state.revisions = ap (λ (x : KeyedJob). length x.state.revisions) same in omega (arith, few, full, equal)

may-over : (which : LimitKind) (past : List Event) (k : Key) (number : ℕ) (r : Posted) (t u : KeyedJob) → t ≡ u → MayRevise past k number r t → IsOver which u.state.revisions r → ⊥
may-over which past k number r t u same may over = over-room which past k number r t may (subst (λ (x : KeyedJob). IsOver which x.state.revisions r) (sym same) over)

may-few : (past : List Event) (k : Key) (r : Posted) (t : KeyedJob) → MayRevise past k (length t.state.revisions + 1) r t → length t.state.revisions < limits.revisions
may-few past k r t may = omega (arith, may.room)

-- so is a revision
revises-decided : (w : ℕ) (past : List Event) (k : Key) (r : Posted) (one other : Result (Unit {0}) ReviseFault) (es fs : List Event) → IsRevising past k r one es → IsRevising past k r other fs → wanted (Revises k r) one ≡ wanted (Revises k r) other → Decided (Revises k r) one other es fs
revises-decided w past k r one other es fs a b same = by_answers one other a b same
  where
    one-job : (t u : KeyedJob) → job_of k (states past) ≡ Some t → job_of k (states past) ≡ Some u → t ≡ u
    one-job t u p q = found-same (job_of k (states past)) t u p q

    no-job : (t : KeyedJob) → job_of k (states past) ≡ Some t → job_of k (states past) ≡ None → ⊥
    no-job t p q = found-not (job_of k (states past)) t p q

    by_answers : (x y : Result (Unit {0}) ReviseFault) → IsRevising past k r x es → IsRevising past k r y fs → wanted (Revises k r) x ≡ wanted (Revises k r) y → Decided (Revises k r) x y es fs
    by_answers (Ok done) (Ok made) p q m = (refl, λ n. p.2 ∙ (ap (λ (t : KeyedJob). Revise k (length t.state.revisions + 1) r ∷ []) (one-job p.0 q.0 p.1.job q.1.job) ∙ sym q.2))
    by_answers (Ok done) (Err revising.NoJob) p q m = absurd (no-job p.0 p.1.job q.0)
    by_answers (Ok done) (Err revising.Closed) p q m = absurd (closed-open q.0 p.0 (one-job q.0 p.0 q.1 p.1.job) q.2 p.1.open_still)
    by_answers (Ok done) (Err revising.RevisionsFull) p q m = absurd (few-full p.0 q.0 (one-job p.0 q.0 p.1.job q.1) (may-few past k r p.0 p.1) q.3)
    by_answers (Ok done) (Err (revising.JobFull which)) p q m = absurd (may-over which past k (length p.0.state.revisions + 1) r p.0 q.0 (one-job p.0 q.0 p.1.job q.1) p.1 q.4)
    by_answers (Ok done) (Err revising.OutOfMemory) p q m = absurd (cc)
    by_answers (Err revising.NoJob) (Ok made) p q m = absurd (no-job q.0 q.1.job p.0)
    by_answers (Err revising.NoJob) (Err revising.NoJob) p q m = (refl, λ n. no-events es fs p.1 q.1)
    by_answers (Err revising.NoJob) (Err revising.Closed) p q m = absurd (no-job q.0 q.1 p.0)
    by_answers (Err revising.NoJob) (Err revising.RevisionsFull) p q m = absurd (no-job q.0 q.1 p.0)
    by_answers (Err revising.NoJob) (Err (revising.JobFull which)) p q m = absurd (no-job q.0 q.1 p.0)
    by_answers (Err revising.NoJob) (Err revising.OutOfMemory) p q m = absurd (cc)
    by_answers (Err revising.Closed) (Ok made) p q m = absurd (closed-open p.0 q.0 (one-job p.0 q.0 p.1 q.1.job) p.2 q.1.open_still)
    by_answers (Err revising.Closed) (Err revising.NoJob) p q m = absurd (no-job p.0 p.1 q.0)
    by_answers (Err revising.Closed) (Err revising.Closed) p q m = (refl, λ n. no-events es fs p.3 q.3)
    by_answers (Err revising.Closed) (Err revising.RevisionsFull) p q m = absurd (closed-open p.0 q.0 (one-job p.0 q.0 p.1 q.1) p.2 q.2)
    by_answers (Err revising.Closed) (Err (revising.JobFull which)) p q m = absurd (closed-open p.0 q.0 (one-job p.0 q.0 p.1 q.1) p.2 q.2)
    by_answers (Err revising.Closed) (Err revising.OutOfMemory) p q m = absurd (cc)
    by_answers (Err revising.RevisionsFull) (Ok made) p q m = absurd (few-full q.0 p.0 (one-job q.0 p.0 q.1.job p.1) (may-few past k r q.0 q.1) p.3)
    by_answers (Err revising.RevisionsFull) (Err revising.NoJob) p q m = absurd (no-job p.0 p.1 q.0)
    by_answers (Err revising.RevisionsFull) (Err revising.Closed) p q m = absurd (closed-open q.0 p.0 (one-job q.0 p.0 q.1 p.1) q.2 p.2)
    by_answers (Err revising.RevisionsFull) (Err revising.RevisionsFull) p q m = (refl, λ n. no-events es fs p.4 q.4)
    by_answers (Err revising.RevisionsFull) (Err (revising.JobFull which)) p q m = absurd (few-full q.0 p.0 (one-job q.0 p.0 q.1 p.1) q.3 p.3)
    by_answers (Err revising.RevisionsFull) (Err revising.OutOfMemory) p q m = absurd (cc)
    by_answers (Err (revising.JobFull which)) (Ok made) p q m = absurd (may-over which past k (length q.0.state.revisions + 1) r q.0 p.0 (one-job q.0 p.0 q.1.job p.1) q.1 p.4)
    by_answers (Err (revising.JobFull which)) (Err revising.NoJob) p q m = absurd (no-job p.0 p.1 q.0)
    by_answers (Err (revising.JobFull which)) (Err revising.Closed) p q m = absurd (closed-open q.0 p.0 (one-job q.0 p.0 q.1 p.1) q.2 p.2)
    by_answers (Err (revising.JobFull which)) (Err revising.RevisionsFull) p q m = absurd (few-full p.0 q.0 (one-job p.0 q.0 p.1 q.1) p.3 q.3)
    by_answers (Err (revising.JobFull which)) (Err (revising.JobFull other)) p q m = (ap (λ (x : LimitKind). Err (revising.JobFull x)) (over-decided which other p.0.state.revisions r p.4 (subst (λ (t : KeyedJob). IsOver other t.state.revisions r) (one-job q.0 p.0 q.1 p.1) q.4)), λ n. no-events es fs p.5 q.5)
    by_answers (Err (revising.JobFull which)) (Err revising.OutOfMemory) p q m = absurd (cc)
    by_answers (Err revising.OutOfMemory) (Ok made) p q m = absurd (cc)
    by_answers (Err revising.OutOfMemory) (Err revising.NoJob) p q m = absurd (cc)
    by_answers (Err revising.OutOfMemory) (Err revising.Closed) p q m = absurd (cc)
    by_answers (Err revising.OutOfMemory) (Err revising.RevisionsFull) p q m = absurd (cc)
    by_answers (Err revising.OutOfMemory) (Err (revising.JobFull which)) p q m = absurd (cc)
    by_answers (Err revising.OutOfMemory) (Err revising.OutOfMemory) p q m = (refl, λ n. absurd (cc))

-- a job of which a node is out is not one of which none is
none-out : (t u : KeyedJob) (index : ℕ) → t ≡ u → first_out t.state ≡ None → first_out u.state ≡ Some index → ⊥
none-out t u index same none out = found-not (first_out u.state) index out (subst (λ (x : KeyedJob). first_out x.state ≡ None) same none)

-- so is the packing of a job
packs-decided : (w : ℕ) (past : List Event) (k : Key) (one other : Result (List Own) PackFault) (es fs : List Event) → IsPacking past k one es → IsPacking past k other fs → wanted (Packs k) one ≡ wanted (Packs k) other → Decided (Packs k) one other es fs
packs-decided w past k (Ok one) (Ok other) es fs a b same = (ap Ok (a.3 ∙ sym b.3), λ m. no-events es fs a.4 b.4)
packs-decided w past k (Ok one) (Err packing.NoJob) es fs a b same = absurd (found-not (job_of k (states past)) a.0 a.1.job b.0)
packs-decided w past k (Ok one) (Err (packing.Out place)) es fs a b same = absurd (none-out a.0 b.0 place (found-same (job_of k (states past)) a.0 b.0 a.1.job b.1) a.2 b.2)
packs-decided w past k (Ok one) (Err packing.OutOfMemory) es fs a b same = absurd (cc)
packs-decided w past k (Err packing.NoJob) (Ok other) es fs a b same = absurd (found-not (job_of k (states past)) b.0 b.1.job a.0)
packs-decided w past k (Err packing.NoJob) (Err packing.NoJob) es fs a b same = (refl, λ m. no-events es fs a.1 b.1)
packs-decided w past k (Err packing.NoJob) (Err (packing.Out place)) es fs a b same = absurd (found-not (job_of k (states past)) b.0 b.1 a.0)
packs-decided w past k (Err packing.NoJob) (Err packing.OutOfMemory) es fs a b same = absurd (cc)
packs-decided w past k (Err (packing.Out index)) (Ok other) es fs a b same = absurd (none-out b.0 a.0 index (found-same (job_of k (states past)) b.0 a.0 b.1.job a.1) b.2 a.2)
packs-decided w past k (Err (packing.Out index)) (Err packing.NoJob) es fs a b same = absurd (found-not (job_of k (states past)) a.0 a.1 b.0)
packs-decided w past k (Err (packing.Out index)) (Err (packing.Out place)) es fs a b same = (ap (λ (i : ℕ). Err (packing.Out i)) (found-same (first_out b.0.state) index place (subst (λ (t : KeyedJob). first_out t.state ≡ Some index) (found-same (job_of k (states past)) a.0 b.0 a.1 b.1) a.2) b.2), λ m. no-events es fs a.3 b.3)
packs-decided w past k (Err (packing.Out index)) (Err packing.OutOfMemory) es fs a b same = absurd (cc)
packs-decided w past k (Err packing.OutOfMemory) (Ok other) es fs a b same = absurd (cc)
packs-decided w past k (Err packing.OutOfMemory) (Err packing.NoJob) es fs a b same = absurd (cc)
packs-decided w past k (Err packing.OutOfMemory) (Err (packing.Out place)) es fs a b same = absurd (cc)
packs-decided w past k (Err packing.OutOfMemory) (Err packing.OutOfMemory) es fs a b same = (refl, λ m. absurd (cc))

-- so is the admission of a job
admits-decided : (w : ℕ) (past : List Event) (k : Key) (brought : List Own) (one other : Result (Unit {0}) AdmitFault) (es fs : List Event) → IsAdmitting past k brought one es → IsAdmitting past k brought other fs → wanted (Admits k brought) one ≡ wanted (Admits k brought) other → Decided (Admits k brought) one other es fs
admits-decided w past k brought (Ok done) (Ok made) es fs a b same = (refl, λ m. a.1 ∙ sym b.1)
admits-decided w past k brought (Ok done) (Err admitting.Present) es fs a b same = absurd (found-not (job_of k (states past)) b.0.0 b.0.1 a.0.absent)
admits-decided w past k brought (Ok done) (Err admitting.TenantFull) es fs a b same = absurd (omega (arith, a.0.tenant_room b.0.1, b.0.2))
admits-decided w past k brought (Ok done) (Err admitting.HallFull) es fs a b same = absurd (omega (arith, a.0.hall_room b.0.2, b.0.3))
admits-decided w past k brought (Ok done) (Err admitting.OutOfMemory) es fs a b same = absurd (cc)
admits-decided w past k brought (Err admitting.Present) (Ok made) es fs a b same = absurd (found-not (job_of k (states past)) a.0.0 a.0.1 b.0.absent)
admits-decided w past k brought (Err admitting.Present) (Err admitting.Present) es fs a b same = (refl, λ m. no-events es fs a.1 b.1)
admits-decided w past k brought (Err admitting.Present) (Err admitting.TenantFull) es fs a b same = absurd (found-not (job_of k (states past)) a.0.0 a.0.1 b.0.0)
admits-decided w past k brought (Err admitting.Present) (Err admitting.HallFull) es fs a b same = absurd (found-not (job_of k (states past)) a.0.0 a.0.1 b.0.0)
admits-decided w past k brought (Err admitting.Present) (Err admitting.OutOfMemory) es fs a b same = absurd (cc)
admits-decided w past k brought (Err admitting.TenantFull) (Ok made) es fs a b same = absurd (omega (arith, b.0.tenant_room a.0.1, a.0.2))
admits-decided w past k brought (Err admitting.TenantFull) (Err admitting.Present) es fs a b same = absurd (found-not (job_of k (states past)) b.0.0 b.0.1 a.0.0)
admits-decided w past k brought (Err admitting.TenantFull) (Err admitting.TenantFull) es fs a b same = (refl, λ m. no-events es fs a.1 b.1)
admits-decided w past k brought (Err admitting.TenantFull) (Err admitting.HallFull) es fs a b same = absurd (omega (arith, a.0.2, b.0.2))
admits-decided w past k brought (Err admitting.TenantFull) (Err admitting.OutOfMemory) es fs a b same = absurd (cc)
admits-decided w past k brought (Err admitting.HallFull) (Ok made) es fs a b same = absurd (omega (arith, b.0.hall_room a.0.2, a.0.3))
admits-decided w past k brought (Err admitting.HallFull) (Err admitting.Present) es fs a b same = absurd (found-not (job_of k (states past)) b.0.0 b.0.1 a.0.0)
admits-decided w past k brought (Err admitting.HallFull) (Err admitting.TenantFull) es fs a b same = absurd (omega (arith, a.0.2, b.0.2))
admits-decided w past k brought (Err admitting.HallFull) (Err admitting.HallFull) es fs a b same = (refl, λ m. no-events es fs a.1 b.1)
admits-decided w past k brought (Err admitting.HallFull) (Err admitting.OutOfMemory) es fs a b same = absurd (cc)
admits-decided w past k brought (Err admitting.OutOfMemory) (Ok made) es fs a b same = absurd (cc)
admits-decided w past k brought (Err admitting.OutOfMemory) (Err admitting.Present) es fs a b same = absurd (cc)
admits-decided w past k brought (Err admitting.OutOfMemory) (Err admitting.TenantFull) es fs a b same = absurd (cc)
admits-decided w past k brought (Err admitting.OutOfMemory) (Err admitting.HallFull) es fs a b same = absurd (cc)
admits-decided w past k brought (Err admitting.OutOfMemory) (Err admitting.OutOfMemory) es fs a b same = (refl, λ m. absurd (cc))

-- so is every call
pub call-is_decided : CallIsDecided
call-is_decided w past (Opens k ask) one other es fs a b same = opens-decided w past k ask one other es fs a b same
call-is_decided w past (Revises k r) one other es fs a b same = revises-decided w past k r one other es fs a b same
call-is_decided w past (Reasks k weight) one other es fs a b same = reasks-decided w past k weight one other es fs a b same
call-is_decided w past (Closes k) one other es fs a b same = closes-decided w past k one other es fs a b
call-is_decided w past (Picks worker) one other es fs a b same = picks-decided w past worker one other es fs a b same
call-is_decided w past (Finishes d) one other es fs a b same = returns-decided w past d one other es fs a b
call-is_decided w past Recalls one other es fs a b same = (refl, λ m. a ∙ sym b)
call-is_decided w past (Asks k r) one other es fs a b same = asks-decided w past k r one other es fs a b same
call-is_decided w past (Packs k) one other es fs a b same = packs-decided w past k one other es fs a b same
call-is_decided w past (Admits k brought) one other es fs a b same = admits-decided w past k brought one other es fs a b same
call-is_decided w past (Leaves k) one other es fs a b same = (refl, λ m. a.2 ∙ sym b.2)
