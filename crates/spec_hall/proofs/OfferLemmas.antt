-- Where a job is live and nothing is out, a worker that picks gets a lease, unless memory runs out.
use Rattle.std.proofs.Common.{◌≡◌, ◌≢◌, ◌⊎◌, ℕ, zero, suc, ◌≤◌, Bool, true, false, cond, ◌==◌, List, [], ◌∷◌, ◌++◌, length, map, slice_get, slice_set, Result, Ok, Err, Some, is_some, inl, inr, refl, sym, ◌∙◌, ap, subst, append_assoc, append-nil}
use Rattle.std.specs.List.{list_all}
use Rattle.std.proofs.lemmas.Bool.{and_parts}
use Rattle.mal_base.specs.declared.hall_fault.PickFault.{PickFault}
use Rattle.mal_base.specs.declared.hall_fault.PickFault.TheVariants as picking
use Rattle.mal_history.specs.declared.event.Share.{Share}
use Rattle.spec_job.specs.KeyedJob.{KeyedJob}
use Rattle.spec_job.specs.SoloMachine.{Exchanged, is_live}
use Rattle.spec_job.specs.Viewed.{and_own}
use Rattle.spec_hall.specs.Calls.{AllDone, Handed, Idle, IsPicking, Leased, Offer, arranges}
use Rattle.spec_hall.specs.Driven.{is_done}
use Rattle.spec_hall.specs.Events.{Event, Open, Revise, Reask, Close, Balance, Start, Finish, Exchange, Leave, Arrive}
use Rattle.spec_hall.specs.Legal.{Allowed, Legal}
use Rattle.spec_hall.specs.Offers.{DueLeavesLives, LivePickIsLeased}
use Rattle.spec_hall.specs.Seats.{Seat, jobs_in}
use Rattle.spec_hall.specs.States.{Live, lease_of, leases, live_of, live_ones, lives, states}
use Rattle.spec_hall.proofs.GoesOnLemmas.{done-lives, idle-answered}
use Rattle.spec_hall.proofs.PushLemmas.{Legal-push}
use Rattle.spec_hall.proofs.SeatLemmas.{reseated, seats-touch}
use Rattle.spec_hall.proofs.SeatedLemmas.{HasSeats, legal-seats}
use Rattle.spec_hall.proofs.TouchLemmas.{given, states-balance, exchange-touches}
use Rattle.spec_hall.proofs.TurnLemmas.{IsExchangeOf, due-leases, due-legal, exchange-seat}

-- a job in front of others
front-lives : (t u : KeyedJob) (ts us : List KeyedJob) → is_live t.state ≡ is_live u.state → live_of t ≡ live_of u → lives ts ≡ lives us → lives (t ∷ ts) ≡ lives (u ∷ us)
front-lives t u ts us live same rest = ap (λ (b : Bool). map live_of (cond b (t ∷ live_ones ts) (live_ones ts))) live ∙ by_test (is_live u.state)
  where
    by_test : (b : Bool) → map live_of (cond b (t ∷ live_ones ts) (live_ones ts)) ≡ map live_of (cond b (u ∷ live_ones us) (live_ones us))
    by_test true = ap (λ (l : Live). l ∷ lives ts) same ∙ ap (λ (ls : List Live). live_of u ∷ ls) rest
    by_test false = rest

-- what arranges the jobs leaves the live ones
given-lives : (shares : List Share) (ts : List KeyedJob) → lives (map (given shares) ts) ≡ lives ts
given-lives shares [] = refl
given-lives shares (t ∷ ts) = front-lives (given shares t) t (map (given shares) ts) ts refl refl (given-lives shares ts)

exchanged-lives : (ss : List Seat) (n : ℕ) (s : Seat) → slice_get ss n ≡ Some s → lives (jobs_in (slice_set ss n (reseated s (and_own s.job Exchanged)))) ≡ lives (jobs_in ss)
exchanged-lives [] n s at = refl
exchanged-lives (x ∷ xs) zero s at =
    let same : x ≡ s = cc in
    front-lives (reseated s (and_own s.job Exchanged)).job.titled s.job.titled (jobs_in xs) (jobs_in xs) refl refl refl ∙ ap (λ (y : Seat). lives (y.job.titled ∷ jobs_in xs)) (sym same)
exchanged-lives (x ∷ xs) (suc n) s at = front-lives x.job.titled x.job.titled (jobs_in (slice_set xs n (reseated s (and_own s.job Exchanged)))) (jobs_in xs) refl refl (exchanged-lives xs n s at)

arranged-lives : (w : ℕ) (h : List Event) (e : Event) → 1 ≤ w → Legal w h → arranges e ≡ true → Allowed w h e → lives (states (h ++ e ∷ [])) ≡ lives (states h)
arranged-lives w h (Open k ask) some legal a may = absurd (cc)
arranged-lives w h (Revise k number r) some legal a may = absurd (cc)
arranged-lives w h (Reask k weight) some legal a may = absurd (cc)
arranged-lives w h (Close k) some legal a may = absurd (cc)
arranged-lives w h (Balance shares) some legal a may = ap lives (states-balance h shares) ∙ given-lives shares (states h)
arranged-lives w h (Start k index worker) some legal a may = absurd (cc)
arranged-lives w h (Finish k index worker outcome) some legal a may = absurd (cc)
arranged-lives w h (Leave k) some legal a may = absurd (cc)
arranged-lives w h (Arrive k brought) some legal a may = absurd (cc)
arranged-lives w h (Exchange k) some legal a may =
    let has : HasSeats w h = legal-seats w h some legal in
    let x : IsExchangeOf w h has.seats k = exchange-seat w h has.seats k has.are may in
    let mine : Allowed w h (Exchange x.seat.job.titled.key) = subst (λ j. Allowed w h (Exchange j)) (sym x.key) may in
    let after = seats-touch w h has.seats x.at x.seat (Exchange x.seat.job.titled.key) Exchanged (and_own x.seat.job Exchanged) has.are x.is mine (exchange-touches x.seat.job.titled.key) refl refl in
    ap (λ j. lives (states (h ++ Exchange j ∷ []))) (sym x.key) ∙ (ap lives after.jobs ∙ (exchanged-lives has.seats x.at x.seat x.is ∙ sym (ap lives has.are.jobs)))

pub due-leaves_lives : DueLeavesLives
due-leaves_lives w past [] some legal due = ap (λ (h : List Event). lives (states h)) (append-nil past)
due-leaves_lives w past (e ∷ es) some legal due =
    let parts = and_parts (arranges e) (list_all arranges es) due.kinds in
    ap (λ (h : List Event). lives (states h)) (sym (append_assoc past (e ∷ []) es))
    ∙ (due-leaves_lives w (past ++ e ∷ []) es some (Legal-push w past e legal due.legal.0) (record { kinds = parts.1; legal = due.legal.1 }) ∙ arranged-lives w past e some legal parts.0 due.legal.0)

-- a pick that is answered otherwise finds no live job, or a lease that is out
picks-leased : (w worker : ℕ) (past es : List Event) (answer : Result Offer PickFault) → 1 ≤ w → w ≤ 64 → Legal w past → lives (states past) ≢ [] → leases past ≡ [] → IsPicking w past worker answer es → ((lease : Handed) × (answer ≡ Ok (Leased lease))) ⊎ (answer ≡ Err picking.OutOfMemory)
picks-leased w worker past es (Ok (Leased lease)) some bound legal live home call = inl (lease, refl)
picks-leased w worker past es (Ok Idle) some bound legal live home call =
    let out : leases (past ++ es) ≡ [] = due-leases past es call.due.kinds ∙ home in
    let none : lives (states (past ++ es)) ≡ [] = idle-answered w (past ++ es) some bound (due-legal w past es legal call.due) out call.idle.calm.balance call.idle.none in
    absurd (live (sym (due-leaves_lives w past es some legal call.due) ∙ none))
picks-leased w worker past es (Ok AllDone) some bound legal live home call =
    absurd (live (done-lives (states past) (and_parts (is_done (states past)) (length (leases past) == 0) call.0).0))
picks-leased w worker past es (Err picking.Busy) some bound legal live home call =
    let none : is_some (lease_of worker (leases past)) ≡ false = ap (λ ls. is_some (lease_of worker ls)) home in
    absurd (cc)
picks-leased w worker past es (Err picking.OutOfMemory) some bound legal live home call = inr refl

pub live-pick_is_leased : LivePickIsLeased
live-pick_is_leased w worker past now answer some bound legal live home called = picks-leased w worker past called.events answer some bound legal live home called.call
