-- What a hall does between two starts, and a start with its end, as turns that leave less to do.
use Rattle.std.proofs.Common.{◌≡◌, ℕ, zero, suc, ◌<◌, ◌≤◌, Bool, true, false, not, ◌&&◌, List, [], ◌∷◌, ◌++◌, map, flat_map, length, slice_get, slice_set, Option, Some, None, refl, sym, ◌∙◌, ap, subst, arith, append_assoc, append-nil}
use Rattle.std.specs.List.{list_all}
use Rattle.std.proofs.lemmas.Bool.{and_from, and_parts}
use Rattle.std.proofs.lemmas.List.Concat.{flat_map-append}
use Rattle.mal_base.specs.declared.verdict.Outcome.{Outcome}
use Rattle.mal_base.specs.declared.verdict.Outcome.TheVariants.{Ran, Starved, Lost}
use Rattle.mal_history.specs.declared.event.Share.{Share}
use Rattle.spec_job.specs.Left.{StartsLeaveLess, after_start, left_of}
use Rattle.spec_job.specs.SoloMachine.{Exchanged, SoloMachine, is_live, solo}
use Rattle.spec_job.specs.KeyedJob.{Key, KeyedJob}
use Rattle.spec_job.specs.Viewed.{and_own}
use Rattle.spec_job.proofs.LeftLemmas.{left-falls}
use Rattle.spec_hall.specs.Calls.{AreDue, arranges}
use Rattle.spec_hall.specs.Driven.{Turn, Balances, Exchanges, Slices, AreTurns, GrowsByTurns, events_in, is_done, loses, was_lost}
use Rattle.spec_hall.specs.Events.{Event, Open, Revise, Reask, Close, Balance, Start, Finish, Exchange, Leave, Arrive}
use Rattle.spec_hall.specs.Legal.{Allowed, Legal, LegalFrom}
use Rattle.spec_hall.specs.Measure.{left_in}
use Rattle.spec_hall.specs.Own.{own}
use Rattle.spec_hall.specs.Seats.{Seat, IsSeated, jobs_in, is_due, first_exchange}
use Rattle.spec_hall.specs.States.{LeaseOut, keys_of, lives, states, titled, leases, lease_of, exchange_due}
use Rattle.spec_hall.proofs.PushLemmas.{Legal-push, leases-push}
use Rattle.spec_hall.proofs.StatesLemmas.{legal_from-keeps}
use Rattle.spec_hall.proofs.TouchLemmas.{given, states-balance, exchange-touches}
use Rattle.spec_hall.proofs.SeatLemmas.{reseated, seats-touch, sits-at}
use Rattle.spec_hall.proofs.DueLemmas.{seated-due}
use Rattle.spec_hall.proofs.ExchangeLemmas.{first-found, seated-no_exchange}
use Rattle.spec_hall.proofs.PlaceLemmas.{first-within}
use Rattle.spec_hall.proofs.RunnableLemmas.{picked-may}
use Rattle.spec_hall.proofs.LeftLemmas.{calm-due, left-balance, left-exchange, left-slice}
use Rattle.spec_hall.proofs.SeatedLemmas.{HasSeats, SeatOf, IsBalancedBy, balance-facts, legal-seats, opened-seat}
use Rattle.spec_hall.proofs.LeasesLemmas.{start-free, without}
use Rattle.spec_hall.proofs.KeyLemmas.{key-stands}

-- what is due, and one event more
all-push : (test : Event → Bool) (es : List Event) (e : Event) → list_all test es ≡ true → test e ≡ true → list_all test (es ++ e ∷ []) ≡ true
all-push test [] e h t = and_from (test e) true t refl
all-push test (x ∷ xs) e h t = let parts = and_parts (test x) (list_all test xs) h in and_from (test x) (list_all test (xs ++ e ∷ [])) parts.0 (all-push test xs e parts.1 t)

pub due-none : (w : ℕ) (past : List Event) → AreDue w past []
due-none w past = record { kinds = refl; legal = tt }

-- what arranges the jobs leaves the leases
arranged-leases : (ls : List Event) (e : Event) → arranges e ≡ true → leases (ls ++ e ∷ []) ≡ leases ls
arranged-leases h (Open k ask) e = absurd (cc)
arranged-leases h (Revise k number r) e = absurd (cc)
arranged-leases h (Reask k weight) e = absurd (cc)
arranged-leases h (Close k) e = absurd (cc)
arranged-leases h (Balance shares) e = leases-push h (Balance shares)
arranged-leases h (Start k index worker) e = absurd (cc)
arranged-leases h (Finish k index worker outcome) e = absurd (cc)
arranged-leases h (Leave k) e = absurd (cc)
arranged-leases h (Arrive k brought) e = absurd (cc)
arranged-leases h (Exchange k) e = leases-push h (Exchange k)

pub due-leases : (past es : List Event) → list_all arranges es ≡ true → leases (past ++ es) ≡ leases past
due-leases past [] h = ap leases (append-nil past)
due-leases past (e ∷ es) h =
    let parts = and_parts (arranges e) (list_all arranges es) h in
    ap leases (sym (append_assoc past (e ∷ []) es)) ∙ (due-leases (past ++ e ∷ []) es parts.1 ∙ arranged-leases past e parts.0)

-- whether all is done stays as it was
given-done : (shares : List Share) (ts : List KeyedJob) → is_done (map (given shares) ts) ≡ is_done ts
given-done shares [] = refl
given-done shares (t ∷ ts) = ap (λ (b : Bool). (t.state.closed && not (is_live t.state)) && b) (given-done shares ts)

exchanged-done : (ss : List Seat) (n : ℕ) (s : Seat) → slice_get ss n ≡ Some s → is_done (jobs_in (slice_set ss n (reseated s (and_own s.job Exchanged)))) ≡ is_done (jobs_in ss)
exchanged-done [] n s at = refl
exchanged-done (x ∷ xs) zero s at = let same : x ≡ s = cc in ap (λ (y : Seat). (y.job.titled.state.closed && not (is_live y.job.titled.state)) && is_done (jobs_in xs)) (sym same)
exchanged-done (x ∷ xs) (suc n) s at = ap (λ (b : Bool). (x.job.titled.state.closed && not (is_live x.job.titled.state)) && b) (exchanged-done xs n s at)

-- the first exchange that is due is of a seat
pub record IsExchangeOf (w : ℕ) (h : List Event) (ss : List Seat) (k : Key) : Type 0 where
  pub at : ℕ
  pub seat : Seat
  pub first : first_exchange ss ≡ Some at
  pub is : slice_get ss at ≡ Some seat
  pub key : seat.job.titled.key ≡ k
  pub calm : is_due ss ≡ false

there : (ss : List Seat) (n : ℕ) → n < length ss → (s : Seat) × (slice_get ss n ≡ Some s)
there [] n low = absurd (omega (arith, low))
there (x ∷ xs) zero low = (x, refl)
there (x ∷ xs) (suc n) low = there xs n (omega (arith, low))

pub exchange-seat : (w : ℕ) (h : List Event) (ss : List Seat) (k : Key) → IsSeated w h ss → Allowed w h (Exchange k) → IsExchangeOf w h ss k
exchange-seat w h ss k seated may = by_first (first_exchange ss) refl
  where
    due : is_due ss ≡ false
    due = by_test (is_due ss) refl
      where
        by_test : (b : Bool) → is_due ss ≡ b → b ≡ false
        by_test false e = refl
        by_test true e = absurd (seated-due w h ss seated e may.1.balance)

    by_first : (o : Option ℕ) → first_exchange ss ≡ o → IsExchangeOf w h ss k
    by_first None e = let none : None ≡ Some may.0 = sym (seated-no_exchange w h ss seated e) ∙ may.1.first in absurd (cc)
    by_first (Some n) e =
        let found = there ss n (first-within ss n e) in
        let job : Some found.0.job.titled ≡ Some may.0 = sym (ap exchange_due seated.jobs ∙ first-found ss n found.0 e found.1) ∙ may.1.first in
        let same : found.0.job.titled ≡ may.0 = cc in
        record { at = n; seat = found.0; first = e; is = found.1; key = ap (λ (t : KeyedJob). t.key) same ∙ may.1.key; calm = due }

arranged-done : (w : ℕ) (h : List Event) (e : Event) → 1 ≤ w → Legal w h → arranges e ≡ true → Allowed w h e → is_done (states (h ++ e ∷ [])) ≡ is_done (states h)
arranged-done w h (Open k ask) some legal a may = absurd (cc)
arranged-done w h (Revise k number r) some legal a may = absurd (cc)
arranged-done w h (Reask k weight) some legal a may = absurd (cc)
arranged-done w h (Close k) some legal a may = absurd (cc)
arranged-done w h (Balance shares) some legal a may = ap is_done (states-balance h shares) ∙ given-done shares (states h)
arranged-done w h (Start k index worker) some legal a may = absurd (cc)
arranged-done w h (Finish k index worker outcome) some legal a may = absurd (cc)
arranged-done w h (Leave k) some legal a may = absurd (cc)
arranged-done w h (Arrive k brought) some legal a may = absurd (cc)
arranged-done w h (Exchange k) some legal a may =
    let has : HasSeats w h = legal-seats w h some legal in
    let x : IsExchangeOf w h has.seats k = exchange-seat w h has.seats k has.are may in
    let mine : Allowed w h (Exchange x.seat.job.titled.key) = subst (λ (j : Key). Allowed w h (Exchange j)) (sym x.key) may in
    let after : IsSeated w (h ++ Exchange x.seat.job.titled.key ∷ []) (slice_set has.seats x.at (reseated x.seat (and_own x.seat.job Exchanged))) = seats-touch w h has.seats x.at x.seat (Exchange x.seat.job.titled.key) Exchanged (and_own x.seat.job Exchanged) has.are x.is mine (exchange-touches x.seat.job.titled.key) refl refl in
    ap (λ (j : Key). is_done (states (h ++ Exchange j ∷ []))) (sym x.key) ∙ (ap is_done after.jobs ∙ (exchanged-done has.seats x.at x.seat x.is ∙ sym (ap is_done has.are.jobs)))

-- less is left after what arranges the jobs
pub arranged-left : (w : ℕ) (h : List Event) (e : Event) → 1 ≤ w → Legal w h → arranges e ≡ true → Allowed w h e → left_in (h ++ e ∷ []) < left_in h
arranged-left w h (Open k ask) some legal a may = absurd (cc)
arranged-left w h (Revise k number r) some legal a may = absurd (cc)
arranged-left w h (Reask k weight) some legal a may = absurd (cc)
arranged-left w h (Close k) some legal a may = absurd (cc)
arranged-left w h (Balance shares) some legal a may =
    let has : HasSeats w h = legal-seats w h some legal in
    let facts : IsBalancedBy w h shares has.seats = balance-facts w h shares may has in
    subst (λ (xs : List Share). left_in (h ++ Balance xs ∷ []) < left_in h) (sym facts.same) (left-balance w h has.seats (map (λ (s : Share). s.volume) shares) has.are facts.fair facts.due)
arranged-left w h (Start k index worker) some legal a may = absurd (cc)
arranged-left w h (Finish k index worker outcome) some legal a may = absurd (cc)
arranged-left w h (Leave k) some legal a may = absurd (cc)
arranged-left w h (Arrive k brought) some legal a may = absurd (cc)
arranged-left w h (Exchange k) some legal a may =
    let has : HasSeats w h = legal-seats w h some legal in
    let x : IsExchangeOf w h has.seats k = exchange-seat w h has.seats k has.are may in
    subst (λ (j : Key). left_in (h ++ Exchange j ∷ []) < left_in h) x.key (left-exchange w h has.seats x.at x.seat has.are (calm-due h has.seats (lives (states h)) (sym may.1.balance) x.calm) x.first x.is)

pub due-left : (w : ℕ) (past es : List Event) → 1 ≤ w → Legal w past → AreDue w past es → left_in (past ++ es) ≤ left_in past
due-left w past [] some legal due = subst (λ (h : List Event). left_in h ≤ left_in past) (sym (append-nil past)) (omega arith)
due-left w past (e ∷ es) some legal due =
    let parts = and_parts (arranges e) (list_all arranges es) due.kinds in
    let first : left_in (past ++ e ∷ []) < left_in past = arranged-left w past e some legal parts.0 due.legal.0 in
    let rest : left_in ((past ++ e ∷ []) ++ es) ≤ left_in (past ++ e ∷ []) = due-left w (past ++ e ∷ []) es some (Legal-push w past e legal due.legal.0) (record { kinds = parts.1; legal = due.legal.1 }) in
    subst (λ (h : List Event). left_in h ≤ left_in past) (append_assoc past (e ∷ []) es) (omega (arith, first, rest))

-- what is due is legal
pub due-legal : (w : ℕ) (past es : List Event) → Legal w past → AreDue w past es → Legal w (past ++ es)
due-legal w past es legal due = legal_from-keeps w (Legal w) (λ h e may l. Legal-push w h e l may) past es due.legal legal

-- turns after turns
pub turns-none : (workers : ℕ) (h : List Event) → GrowsByTurns workers h h
turns-none workers h = record { turns = []; grown = sym (append-nil h); allowed = tt }

AreTurns-append : (workers : ℕ) (past : List Event) (ts us : List Turn) → AreTurns workers past ts → AreTurns workers (past ++ flat_map events_in ts) us → AreTurns workers past (ts ++ us)
AreTurns-append workers past [] us first later = subst (λ (h : List Event). AreTurns workers h us) (append-nil past) later
AreTurns-append workers past (t ∷ ts) us first later =
    let behind = subst (λ (h : List Event). AreTurns workers h us) (sym (append_assoc past (events_in t) (flat_map events_in ts))) later in
    (first.0, first.1, first.2, AreTurns-append workers (past ++ events_in t) ts us first.3 behind)

pub turns-more : (workers : ℕ) (a b c : List Event) → GrowsByTurns workers a b → GrowsByTurns workers b c → GrowsByTurns workers a c
turns-more workers a b c one two = record {
  turns = one.turns ++ two.turns;
  grown = two.grown ∙ (ap (λ (h : List Event). h ++ flat_map events_in two.turns) one.grown ∙ (append_assoc a (flat_map events_in one.turns) (flat_map events_in two.turns) ∙ ap (λ (es : List Event). a ++ es) (sym (flat_map-append events_in one.turns two.turns))));
  allowed = AreTurns-append workers a one.turns two.turns one.allowed (subst (λ (h : List Event). AreTurns workers h two.turns) one.grown two.allowed);
}

turns-one : (workers : ℕ) (h : List Event) (t : Turn) → is_done (states h) ≡ false → loses t ≡ false → LegalFrom workers h (events_in t) → GrowsByTurns workers h (h ++ events_in t)
turns-one workers h t left kept legal = record { turns = t ∷ []; grown = ap (λ (es : List Event). h ++ es) (sym (append-nil (events_in t))); allowed = (left, kept, legal, tt) }

-- what arranges the jobs is a turn
arranged-turn : (w : ℕ) (h : List Event) (e : Event) → arranges e ≡ true → Allowed w h e → is_done (states h) ≡ false → GrowsByTurns w h (h ++ e ∷ [])
arranged-turn w h (Open k ask) a may left = absurd (cc)
arranged-turn w h (Revise k number r) a may left = absurd (cc)
arranged-turn w h (Reask k weight) a may left = absurd (cc)
arranged-turn w h (Close k) a may left = absurd (cc)
arranged-turn w h (Balance shares) a may left = turns-one w h (Balances shares) left refl (may, tt)
arranged-turn w h (Start k index worker) a may left = absurd (cc)
arranged-turn w h (Finish k index worker outcome) a may left = absurd (cc)
arranged-turn w h (Leave k) a may left = absurd (cc)
arranged-turn w h (Arrive k brought) a may left = absurd (cc)
arranged-turn w h (Exchange k) a may left = turns-one w h (Exchanges k) left refl (may, tt)

-- so is what is due, and something is still left to do after it
pub record HasTurned (w : ℕ) (past history : List Event) : Type 0 where
  pub turns : GrowsByTurns w past history
  pub left : is_done (states history) ≡ false

pub due-turns : (w : ℕ) (past es : List Event) → 1 ≤ w → Legal w past → is_done (states past) ≡ false → AreDue w past es → HasTurned w past (past ++ es)
due-turns w past [] some legal left due = subst (HasTurned w past) (sym (append-nil past)) (record { turns = turns-none w past; left = left })
due-turns w past (e ∷ es) some legal left due =
    let parts = and_parts (arranges e) (list_all arranges es) due.kinds in
    let one : GrowsByTurns w past (past ++ e ∷ []) = arranged-turn w past e parts.0 due.legal.0 left in
    let next : is_done (states (past ++ e ∷ [])) ≡ false = arranged-done w past e some legal parts.0 due.legal.0 ∙ left in
    let rest : HasTurned w (past ++ e ∷ []) ((past ++ e ∷ []) ++ es) = due-turns w (past ++ e ∷ []) es some (Legal-push w past e legal due.legal.0) next (record { kinds = parts.1; legal = due.legal.1 }) in
    subst (HasTurned w past) (append_assoc past (e ∷ []) es) (record { turns = turns-more w past (past ++ e ∷ []) ((past ++ e ∷ []) ++ es) one rest.turns; left = rest.left })

-- a node that starts leaves less, unless it is lost
start-less : (s : SoloMachine) (i : ℕ) (o : Outcome) → was_lost o ≡ false → StartsLeaveLess s i → left_of (after_start s i o) < left_of s
start-less s i Ran e h = h.ran
start-less s i Starved e h = h.starved
start-less s i Lost e h = absurd (cc)

-- the seat of the job whose node starts, to which the start with its end leaves less
pub record IsSliceOf (ss : List Seat) (k : Key) (i : ℕ) (o : Outcome) : Type 0 where
  pub found : SeatOf ss k
  pub less : left_of (after_start found.seat.job.titled.state i o) < left_of found.seat.job.titled.state

pub slice-seat : (w : ℕ) (h : List Event) (ss : List Seat) (k : Key) (i : ℕ) (o : Outcome) → 1 ≤ w → w ≤ 64 → IsSeated w h ss → was_lost o ≡ false → Allowed w h (Start k i 1) → IsSliceOf ss k i o
slice-seat w h ss k i o some bound seated kept may =
    let found : SeatOf ss k = opened-seat w h ss k seated (key-stands (keys_of h) may.0.job k may.1.key) in
    let machine : solo (own k h) ≡ found.seat.job.titled.state = ap (λ (t : KeyedJob). t.state) (subst (λ (x : Key). titled h x ≡ found.seat.job.titled) found.key (sits-at h ss found.at found.seat seated.jobs found.is).machine) in
    record { found = found; less = subst (λ (s : SoloMachine). left_of (after_start s i o) < left_of s) machine (start-less (solo (own k h)) i o kept (left-falls (own k h) i (start-free w h k i 1 some bound seated.legal may).low (picked-may w h k i 1 may.0 may.1))) }

-- a start with its end, of the first worker where nothing is out
pub record HasWorked (w : ℕ) (past history : List Event) : Type 0 where
  pub turns : GrowsByTurns w past history
  pub less : left_in history < left_in past
  pub home : leases history ≡ []

pub slice-worked : (w : ℕ) (h : List Event) (k : Key) (i : ℕ) (o : Outcome) → 1 ≤ w → w ≤ 64 → Legal w h → leases h ≡ [] → is_done (states h) ≡ false → was_lost o ≡ false → Allowed w h (Start k i 1) → HasWorked w h ((h ++ Start k i 1 ∷ []) ++ Finish k i 1 o ∷ [])
slice-worked w h k i o some bound legal home left kept may = record { turns = turned; less = less; home = now }
  where
    l : LeaseOut
    l = record { worker = 1; key = k; index = i }

    out : leases (h ++ Start k i 1 ∷ []) ≡ l ∷ []
    out = leases-push h (Start k i 1) ∙ ap (λ (ls : List LeaseOut). ls ++ l ∷ []) home

    ends : Allowed w (h ++ Start k i 1 ∷ []) (Finish k i 1 o)
    ends = ap (lease_of 1) out

    now : leases ((h ++ Start k i 1 ∷ []) ++ Finish k i 1 o ∷ []) ≡ []
    now = leases-push (h ++ Start k i 1 ∷ []) (Finish k i 1 o) ∙ ap (without 1) out

    turned : GrowsByTurns w h ((h ++ Start k i 1 ∷ []) ++ Finish k i 1 o ∷ [])
    turned = subst (GrowsByTurns w h) (sym (append_assoc h (Start k i 1 ∷ []) (Finish k i 1 o ∷ []))) (turns-one w h (Slices k i o) left kept (may, (ends, tt)))

    has : HasSeats w h
    has = legal-seats w h some legal

    is : IsSliceOf has.seats k i o
    is = slice-seat w h has.seats k i o some bound has.are kept may

    found : SeatOf has.seats k
    found = is.found

    due : is_due has.seats ≡ false
    due = by_test (is_due has.seats) refl
      where
        by_test : (b : Bool) → is_due has.seats ≡ b → b ≡ false
        by_test false e = refl
        by_test true e = absurd (seated-due w h has.seats has.are e may.1.balance)

    less : left_in ((h ++ Start k i 1 ∷ []) ++ Finish k i 1 o ∷ []) < left_in h
    less =
        let mine : Allowed w h (Start found.seat.job.titled.key i 1) = subst (λ (x : Key). Allowed w h (Start x i 1)) (sym found.key) may in
        let over : Allowed w (h ++ Start found.seat.job.titled.key i 1 ∷ []) (Finish found.seat.job.titled.key i 1 o) = subst (λ (x : Key). Allowed w (h ++ Start x i 1 ∷ []) (Finish x i 1 o)) (sym found.key) ends in
        subst (λ (x : Key). left_in ((h ++ Start x i 1 ∷ []) ++ Finish x i 1 o ∷ []) < left_in h) found.key (left-slice w h has.seats found.at found.seat i 1 o has.are found.is (calm-due h has.seats (lives (states h)) (sym may.1.balance) due) mine over is.less)

-- the whole turn: what is due, the start and its end
pub turn-worked : (w : ℕ) (past due : List Event) (k : Key) (i : ℕ) (o : Outcome) → 1 ≤ w → w ≤ 64 → Legal w past → leases past ≡ [] → is_done (states past) ≡ false → was_lost o ≡ false → AreDue w past due → Allowed w (past ++ due) (Start k i 1) → HasWorked w past (((past ++ due) ++ Start k i 1 ∷ []) ++ Finish k i 1 o ∷ [])
turn-worked w past due k i o some bound legal home left kept are may =
    let first : HasTurned w past (past ++ due) = due-turns w past due some legal left are in
    let rest : HasWorked w (past ++ due) (((past ++ due) ++ Start k i 1 ∷ []) ++ Finish k i 1 o ∷ []) = slice-worked w (past ++ due) k i o some bound (due-legal w past due legal are) (due-leases past due are.kinds ∙ home) first.left kept may in
    record { turns = turns-more w past (past ++ due) (((past ++ due) ++ Start k i 1 ∷ []) ++ Finish k i 1 o ∷ []) first.turns rest.turns; less = omega (arith, rest.less, due-left w past due some legal are); home = rest.home }
