-- A slice leaves the jobs of a hall less to run, and what is due leaves them as much.
use Rattle.std.proofs.Common.{◌≡◌, ℕ, ◌+◌, ◌<◌, ◌≤◌, true, false, List, [], ◌∷◌, ◌++◌, map, slice_get, slice_set, Some, inl, inr, refl, sym, ◌∙◌, ap, subst, arith, append_assoc, append-nil}
use Rattle.std.specs.List.{list_all}
use Rattle.std.proofs.lemmas.Bool.{and_parts}
use Rattle.std.proofs.lemmas.List.{map-set}
use Rattle.mal_base.specs.declared.verdict.Outcome.{Outcome}
use Rattle.mal_history.specs.declared.event.Share.{Share}
use Rattle.spec_job.specs.KeyedJob.{Key, KeyedJob}
use Rattle.spec_job.specs.Left.{left_of}
use Rattle.spec_job.specs.SoloMachine.{Exchanged}
use Rattle.spec_job.specs.Viewed.{and_own}
use Rattle.spec_hall.specs.Calls.{AreDue, arranges}
use Rattle.spec_hall.specs.Driven.{was_lost}
use Rattle.spec_hall.specs.Events.{Event, Open, Revise, Reask, Close, Balance, Start, Finish, Exchange, Leave, Arrive}
use Rattle.spec_hall.specs.Legal.{Allowed, Legal}
use Rattle.spec_hall.specs.Measure.{left_among}
use Rattle.spec_hall.specs.Seats.{Seat, jobs_in}
use Rattle.spec_hall.specs.States.{LeaseOut, leases, lease_of, states}
use Rattle.spec_hall.specs.Turns.{HasWaited, IsSlice}
use Rattle.spec_hall.proofs.LeftLemmas.{seated-slice, sliced_seat}
use Rattle.spec_hall.proofs.MeasureLemmas.{left-cons, left-other, seat-at}
use Rattle.spec_hall.proofs.PushLemmas.{Legal-push, leases-push}
use Rattle.spec_hall.proofs.SeatLemmas.{reseated, seats-touch}
use Rattle.spec_hall.proofs.SeatedLemmas.{HasSeats, legal-seats}
use Rattle.spec_hall.proofs.TouchLemmas.{given, states-balance, exchange-touches}
use Rattle.spec_hall.proofs.TurnLemmas.{IsExchangeOf, IsSliceOf, due-leases, due-legal, exchange-seat, slice-seat}

-- a job in a seat to which less is left, or as much
job-less : (ss : List Seat) (n : ℕ) (s now : Seat) → slice_get ss n ≡ Some s → left_of now.job.titled.state < left_of s.job.titled.state → left_among (jobs_in (slice_set ss n now)) < left_among (jobs_in ss)
job-less ss n s now at less =
    let other = left-other (jobs_in ss) n s.job.titled now.job.titled (seat-at ss n s at) in
    let left : left_among (slice_set (jobs_in ss) n now.job.titled) < left_among (jobs_in ss) = omega (arith, other, less) in
    subst (λ (ts : List KeyedJob). left_among ts < left_among (jobs_in ss)) (sym (map-set (λ (x : Seat). x.job.titled) ss n now)) left

job-same : (ss : List Seat) (n : ℕ) (s now : Seat) → slice_get ss n ≡ Some s → left_of now.job.titled.state ≡ left_of s.job.titled.state → left_among (jobs_in (slice_set ss n now)) ≡ left_among (jobs_in ss)
job-same ss n s now at same =
    let other = left-other (jobs_in ss) n s.job.titled now.job.titled (seat-at ss n s at) in
    let left : left_among (slice_set (jobs_in ss) n now.job.titled) ≡ left_among (jobs_in ss) = omega (arith, other, same) in
    ap left_among (map-set (λ (x : Seat). x.job.titled) ss n now) ∙ left

-- what arranges the jobs leaves them as much
given-among : (shares : List Share) (ts : List KeyedJob) → left_among (map (given shares) ts) ≡ left_among ts
given-among shares [] = refl
given-among shares (t ∷ ts) = left-cons (given shares t) (map (given shares) ts) ∙ (ap (λ (n : ℕ). left_of t.state + n) (given-among shares ts) ∙ sym (left-cons t ts))

arranged-among : (w : ℕ) (h : List Event) (e : Event) → 1 ≤ w → Legal w h → arranges e ≡ true → Allowed w h e → left_among (states (h ++ e ∷ [])) ≡ left_among (states h)
arranged-among w h (Open k ask) some legal a may = absurd (cc)
arranged-among w h (Revise k number r) some legal a may = absurd (cc)
arranged-among w h (Reask k weight) some legal a may = absurd (cc)
arranged-among w h (Close k) some legal a may = absurd (cc)
arranged-among w h (Balance shares) some legal a may = ap left_among (states-balance h shares) ∙ given-among shares (states h)
arranged-among w h (Start k index worker) some legal a may = absurd (cc)
arranged-among w h (Finish k index worker outcome) some legal a may = absurd (cc)
arranged-among w h (Leave k) some legal a may = absurd (cc)
arranged-among w h (Arrive k brought) some legal a may = absurd (cc)
arranged-among w h (Exchange k) some legal a may =
    let has : HasSeats w h = legal-seats w h some legal in
    let x : IsExchangeOf w h has.seats k = exchange-seat w h has.seats k has.are may in
    let mine : Allowed w h (Exchange x.seat.job.titled.key) = subst (λ (j : Key). Allowed w h (Exchange j)) (sym x.key) may in
    let after = seats-touch w h has.seats x.at x.seat (Exchange x.seat.job.titled.key) Exchanged (and_own x.seat.job Exchanged) has.are x.is mine (exchange-touches x.seat.job.titled.key) refl refl in
    ap (λ (j : Key). left_among (states (h ++ Exchange j ∷ []))) (sym x.key)
    ∙ (ap left_among after.jobs ∙ (job-same has.seats x.at x.seat (reseated x.seat (and_own x.seat.job Exchanged)) x.is refl ∙ sym (ap left_among has.are.jobs)))

pub due-among : (w : ℕ) (past es : List Event) → 1 ≤ w → Legal w past → AreDue w past es → left_among (states (past ++ es)) ≡ left_among (states past)
due-among w past [] some legal due = ap (λ (h : List Event). left_among (states h)) (append-nil past)
due-among w past (e ∷ es) some legal due =
    let parts = and_parts (arranges e) (list_all arranges es) due.kinds in
    ap (λ (h : List Event). left_among (states h)) (sym (append_assoc past (e ∷ []) es))
    ∙ (due-among w (past ++ e ∷ []) es some (Legal-push w past e legal due.legal.0) (record { kinds = parts.1; legal = due.legal.1 }) ∙ arranged-among w past e some legal parts.0 due.legal.0)

-- a start with its end leaves them less
start-among : (w : ℕ) (h : List Event) (k : Key) (i : ℕ) (o : Outcome) → 1 ≤ w → w ≤ 64 → Legal w h → leases h ≡ [] → was_lost o ≡ false → Allowed w h (Start k i 1) → left_among (states ((h ++ Start k i 1 ∷ []) ++ Finish k i 1 o ∷ [])) < left_among (states h)
start-among w h k i o some bound legal home kept may =
    let has : HasSeats w h = legal-seats w h some legal in
    let is : IsSliceOf has.seats k i o = slice-seat w h has.seats k i o some bound has.are kept may in
    let mine : Allowed w h (Start is.found.seat.job.titled.key i 1) = subst (λ (x : Key). Allowed w h (Start x i 1)) (sym is.found.key) may in
    let whole = seated-slice w h has.seats is.found.at is.found.seat i 1 o has.are is.found.is mine (ends is.found.seat.job.titled.key) in
    let less : left_among (jobs_in (slice_set has.seats is.found.at (sliced_seat is.found.seat i o))) < left_among (jobs_in has.seats) = job-less has.seats is.found.at is.found.seat (sliced_seat is.found.seat i o) is.found.is is.less in
    subst (λ (x : Key). left_among (states ((h ++ Start x i 1 ∷ []) ++ Finish x i 1 o ∷ [])) < left_among (states h)) is.found.key
    (subst (λ (ts : List KeyedJob). left_among ts < left_among (states h)) (sym whole.jobs) (subst (λ (ts : List KeyedJob). left_among (jobs_in (slice_set has.seats is.found.at (sliced_seat is.found.seat i o))) < left_among ts) (sym has.are.jobs) less))
  where
    ends : (x : Key) → Allowed w (h ++ Start x i 1 ∷ []) (Finish x i 1 o)
    ends x = ap (lease_of 1) (leases-push h (Start x i 1) ∙ ap (λ (ls : List LeaseOut). ls ++ record { worker = 1; key = x; index = i } ∷ []) home)

-- a slice where nothing is out: what is due, a start and its end
pub record IsSliced (w : ℕ) (past now : List Event) : Type 0 where
  pub due : List Event
  pub key : Key
  pub index : ℕ
  pub outcome : Outcome
  pub first : AreDue w past due
  pub start : Allowed w (past ++ due) (Start key index 1)
  pub came : was_lost outcome ≡ false
  pub grown : now ≡ ((past ++ due) ++ Start key index 1 ∷ []) ++ Finish key index 1 outcome ∷ []

pub slice-parts : (w : ℕ) (past now : List Event) → leases past ≡ [] → IsSlice w past now → IsSliced w past now
slice-parts w past now home slice = record {
  due = due;
  key = slice.picked.call.key;
  index = slice.picked.call.index;
  outcome = slice.outcome;
  first = slice.picked.call.first;
  start = slice.picked.call.start;
  came = slice.came;
  grown = slice.grown ∙ (ap (λ (h : List Event). h ++ Finish slice.out.key slice.out.index 1 slice.outcome ∷ []) mid-is ∙ ap (λ (l : LeaseOut). ((past ++ due) ++ begun ∷ []) ++ Finish l.key l.index 1 slice.outcome ∷ []) (sym same));
}
  where
    due : List Event
    due = slice.picked.call.due

    begun : Event
    begun = Start slice.picked.call.key slice.picked.call.index 1

    one : LeaseOut
    one = record { worker = 1; key = slice.picked.call.key; index = slice.picked.call.index }

    mid-is : slice.mid ≡ (past ++ due) ++ begun ∷ []
    mid-is = slice.picked.grown ∙ (ap (λ (es : List Event). past ++ es) slice.picked.call.events ∙ sym (append_assoc past due (begun ∷ [])))

    out-is : leases slice.mid ≡ one ∷ []
    out-is = ap leases mid-is ∙ (leases-push (past ++ due) begun ∙ ap (λ (ls : List LeaseOut). ls ++ one ∷ []) (due-leases past due slice.picked.call.first.kinds ∙ home))

    only : (a b : LeaseOut) → Some a ≡ Some b → a ≡ b
    only a b q = cc

    same : one ≡ slice.out
    same = only one slice.out (sym (ap (lease_of 1) out-is) ∙ slice.is_out)

-- so a slice leaves the jobs less to run
pub slice-among : (w : ℕ) (past now : List Event) → 1 ≤ w → w ≤ 64 → Legal w past → leases past ≡ [] → IsSlice w past now → left_among (states now) < left_among (states past)
slice-among w past now some bound legal home slice =
    let s : IsSliced w past now = slice-parts w past now home slice in
    let less : left_among (states (((past ++ s.due) ++ Start s.key s.index 1 ∷ []) ++ Finish s.key s.index 1 s.outcome ∷ [])) < left_among (states (past ++ s.due)) = start-among w (past ++ s.due) s.key s.index s.outcome some bound (due-legal w past s.due legal s.first) (due-leases past s.due s.first.kinds ∙ home) s.came s.start in
    subst (λ (h : List Event). left_among (states h) < left_among (states past)) (sym s.grown)
    (subst (λ (n : ℕ). left_among (states (((past ++ s.due) ++ Start s.key s.index 1 ∷ []) ++ Finish s.key s.index 1 s.outcome ∷ [])) < n) (due-among w past s.due some legal s.first) less)

-- and waiting leaves them as much
pub wait-among : (w : ℕ) (past now : List Event) → 1 ≤ w → Legal w past → HasWaited w past now → left_among (states now) ≡ left_among (states past)
wait-among w past now some legal waited = elim waited [
  | inl idle ↦ ap (λ (h : List Event). left_among (states h)) idle.grown ∙ due-among w past idle.events some legal idle.call.due
  | inr done ↦ ap (λ (h : List Event). left_among (states h)) (done.grown ∙ (ap (λ (es : List Event). past ++ es) done.call.1 ∙ append-nil past))
]
