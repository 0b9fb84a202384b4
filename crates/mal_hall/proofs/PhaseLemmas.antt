-- What the parts of a hall say of its events, and what its parts do to them.
use Rattle.std.proofs.Common.{◌≡◌, ℕ, zero, suc, ◌+◌, ◌-◌, ◌<◌, ◌≤◌, Bool, true, false, cond, ◌&&◌, ◌||◌, ◌==◌, List, [], ◌∷◌, ◌++◌, length, get_or, slice_get, slice_set, Option, Some, None, Ok, Err, map, option_map, is_some, refl, sym, ◌∙◌, ap, subst, arith, append_assoc, append-nil}
use Rattle.std.specs.Prelude.{IsTrue, MatchOption, nat_eq, ◌↔◌}
use Rattle.std.specs.Option.{option_map_or}
use Rattle.std.proofs.lemmas.Bool.{both_ways}
use Rattle.std.proofs.lemmas.Bool.Decides.{Decides-eqb}
use Rattle.std.proofs.lemmas.Option.{get_or_from_slice_get, slice_get-map, slice_get_read}
use Rattle.mal_base.specs.declared.verdict.Outcome.{Outcome}
use Rattle.mal_job.specs.Finishing.{MayFinish}
use Rattle.spec_job.specs.Journaled.{Journaled}
use Rattle.spec_job.specs.Journal.{JournalEntry}
use Rattle.spec_job.specs.Leased.{Finished, Leased}
use Rattle.spec_job.specs.SoloMachine.{Exchanged, NodeSlot, place_at, start_entries, startable, current}
use Rattle.spec_job.specs.SoloMachine.Own.{Finished as Done}
use Rattle.spec_job.specs.KeyedJob.{Key, KeyedJob}
use Rattle.spec_job.specs.Viewed.{IsBack, IsLeaseOf, and_own, and_start}
use Rattle.spec_job.proofs.PlacesLemmas as places
use Rattle.spec_hall.specs.Calls.{Handed, IsOfLease, handed, is_over}
use Rattle.spec_hall.specs.Driven.{is_done}
use Rattle.spec_hall.specs.Events.{Event, Balance, Start, Finish, Exchange}
use Rattle.spec_hall.specs.Leases.{lease_adds, lease_journal, start_number}
use Rattle.spec_hall.specs.Legal.{Allowed, IsBalanceDue}
use Rattle.spec_hall.specs.Seats.{Seat, first_exchange, is_balancing_due, is_due, jobs_in, pick, shares_by}
use Rattle.spec_hall.specs.Spots.{Spot, IsAt, IsSpot, tags_of}
use Rattle.spec_hall.specs.States.{Candidate, LeaseOut, candidates_from, titled, balanced, exchange_due, keys_of, lease_of, leases, lives, picked, states}
use Rattle.spec_hall.proofs.BalanceLemmas.{balance-allowed}
use Rattle.spec_hall.proofs.DueLemmas.{balancing-calm, balancing-due}
use Rattle.spec_hall.proofs.ExchangeLemmas.{first-found, seated-no_exchange}
use Rattle.spec_hall.proofs.JournalLemmas.{IsSeatAt, adds-of, back-lease, held_at, journal-of, lease-back, spot-held, spot-lease, spot-out, spots-home, zero-lease}
use Rattle.spec_hall.proofs.LeasesLemmas.{start-free}
use Rattle.spec_hall.proofs.PickLemmas.{seated-picked}
use Rattle.spec_hall.proofs.RunnableLemmas.{IsCandidate, candidates-may, fewest-All, picked-may}
use Rattle.spec_job.proofs.LeftLemmas.{solo-tidy}
use Rattle.spec_hall.specs.Own.{own}
use Rattle.spec_hall.specs.Leases.{IsWorker}
use Rattle.spec_hall.proofs.PlaceLemmas.{first-within}
use Rattle.spec_hall.proofs.SeatLemmas.{SitsAt, reseated, seat_keys, seated-keys, sits-at}
use Rattle.mal_base.specs.declared.hall_fault.PickFault.TheVariants.{Busy, OutOfMemory}
use Rattle.spec_hall.specs.Calls.{AllDone, AreDue, HasCalled, Idle, MayPick, Picks}
use Rattle.spec_hall.specs.Calls.{Leased as Offered}
use Rattle.mal_job.specs.Among.{among}
use Rattle.spec_hall.specs.Dressed.{revisions_of}
use Rattle.spec_hall.specs.Legal.{job_of}
use Rattle.spec_hall.specs.Driven.{IsCalm, IsIdle}
use Rattle.spec_hall.specs.Legal.{Legal}
use Rattle.spec_hall.specs.Measure.{left_in}
use Rattle.spec_hall.proofs.ArrangeLemmas.{balance-calm, due-more, exchange-calm}
use Rattle.spec_hall.proofs.TurnLemmas.{arranged-left, due-leases, due-none}
use Rattle.mal_hall.specs.Offered.{HasArranged, HasBalanced, HasEnded, HasExchanged, HasStarted, IsFirst, MayEnd, MayStartAt, handed_of}
use Rattle.mal_hall.specs.HallView.{Inside, IsHall, out_in, owed_in}
use Rattle.mal_hall.specs.Turned.{IsBalancing}
use Rattle.mal_hall.proofs.HallLemmas.{Grown, IsAsNoted, hall-balance, hall-exchange, of-seat}
use Rattle.mal_hall.proofs.NumberLemmas.{spot-placed, spot-sits}
use Rattle.mal_seats.specs.Numbered.{place_numbered}
use Rattle.mal_seats.specs.Changed.{OfSeat}
use Rattle.mal_hall.proofs.LeaseLemmas.{hall-finish, hall-start, out-left}

-- whether a balancing is due: a job moved since the last one, or has changed
pub phase-due : (x : Inside) (b : Bool) → IsHall x → b ≡ (x.moved || is_due x.seats) → b ≡ true → IsBalanceDue x.entries.events
phase-due x b hall scan is = balancing-due x.entries.workers x.entries.events x.seats hall.seated (ap (λ (m : Bool). m || is_due x.seats) (sym hall.noted.moved_is) ∙ (sym scan ∙ is))

pub phase-calm : (x : Inside) (b : Bool) → IsHall x → b ≡ (x.moved || is_due x.seats) → b ≡ false → Some (lives (states x.entries.events)) ≡ balanced x.entries.events
phase-calm x b hall scan is = balancing-calm x.entries.workers x.entries.events x.seats hall.seated (ap (λ (m : Bool). m || is_due x.seats) (sym hall.noted.moved_is) ∙ (sym scan ∙ is))

-- a seat that there is
pub seat-there : (ss : List Seat) (n : ℕ) → n < length ss → (s : Seat) × (slice_get ss n ≡ Some s)
seat-there [] n low = absurd (omega (arith, low))
seat-there (s ∷ ss) zero low = (s, refl)
seat-there (s ∷ ss) (suc n) low = seat-there ss n (omega (arith, low))

job-there : (x : Inside) (n : ℕ) (s : Seat) → IsHall x → slice_get x.seats n ≡ Some s → slice_get (states x.entries.events) n ≡ Some s.job.titled
job-there x n s hall at = ap (λ (ts : List KeyedJob). slice_get ts n) hall.seated.jobs ∙ (slice_get-map (λ (t : Seat). t.job.titled) x.seats n ∙ ap (option_map (λ (t : Seat). t.job.titled)) at)

-- the first job of which an exchange is due
pub phase-first : (x : Inside) (o : Option ℕ) → IsHall x → o ≡ first_exchange x.seats → MatchOption o (exchange_due (states x.entries.events) ≡ None) (λ at. IsFirst x.entries.events at)
phase-first x None hall scan = seated-no_exchange x.entries.workers x.entries.events x.seats hall.seated (sym scan)
phase-first x (Some n) hall scan =
    let first : first_exchange x.seats ≡ Some n = sym scan in
    let there = seat-there x.seats n (first-within x.seats n first) in
    record { job = there.0.job.titled; first = ap exchange_due hall.seated.jobs ∙ first-found x.seats n there.0 first there.1; place = job-there x n there.0 hall there.1 }

-- the node that starts next
pub phase-next : (x : Inside) (o : Option Candidate) → IsHall x → o ≡ pick x.seats → o ≡ picked (states x.entries.events)
phase-next x o hall scan = scan ∙ sym (seated-picked x.entries.workers x.entries.events x.seats hall.seated)

-- whether a worker has a lease
pub phase-lease : (x : Inside) (sp : List (Option Spot)) (worker : ℕ) (o : Option Spot) → IsHall x → sp ≡ x.spots → 1 ≤ worker → o ≡ get_or sp (worker - 1) None → is_some o ≡ is_some (lease_of worker (leases x.entries.events))
phase-lease x sp worker o hall same low scan =
    let n : worker ≡ suc (worker - 1) = omega (arith, low) in
    ap (λ (p : Option Spot). is_some p) (scan ∙ ap (λ (ps : List (Option Spot)). get_or ps (worker - 1) None) same)
    ∙ (spot-lease x.entries.workers x.entries.events (tags_of x.seats) x.spots (worker - 1) hall.seated.some_worker hall.bound hall.seated.legal hall.spots
    ∙ ap (λ (v : ℕ). is_some (lease_of v (leases x.entries.events))) (sym n))

-- whether nothing is left
pub phase-over : (x : Inside) (sp : List (Option Spot)) (n : ℕ) → IsHall x → is_done (jobs_in x.seats) ≡ true → sp ≡ x.spots → n ≡ out_in sp → nat_eq n 0 ≡ is_over x.entries.events
phase-over x sp n hall done same scan =
    let seated = hall.seated in
    ap (λ (m : ℕ). m == 0) (scan ∙ ap out_in same)
    ∙ (spots-home x.entries.workers x.entries.events (tags_of x.seats) x.spots seated.some_worker hall.bound seated.legal hall.spots
    ∙ sym (ap (λ (b : Bool). b && length (leases x.entries.events) == 0) (ap is_done seated.jobs ∙ done)))

pub phase-left : (x : Inside) (b : Bool) → IsHall x → b ≡ is_done (jobs_in x.seats) → b ≡ false → b ≡ is_over x.entries.events
phase-left x b hall scan is = is ∙ sym (ap (λ (c : Bool). c && length (leases x.entries.events) == 0) (ap is_done hall.seated.jobs ∙ (sym scan ∙ is)))

-- a balancing that is due
due-is : (x : Inside) → IsHall x → IsBalanceDue x.entries.events → is_balancing_due x.entries.events x.seats ≡ true
due-is x hall due = by_test (is_balancing_due x.entries.events x.seats) refl
  where
    by_test : (b : Bool) → is_balancing_due x.entries.events x.seats ≡ b → b ≡ true
    by_test true e = refl
    by_test false e = absurd (due (balancing-calm x.entries.workers x.entries.events x.seats hall.seated e))

pub record Balanced (x y : Inside) : Type 0 where
  pub hall : IsHall y
  pub has : HasBalanced x.entries.workers x.entries.events y.entries.events

pub phase-balance : (x y : Inside) → IsHall x → IsBalanceDue x.entries.events → y.entries.workers ≡ x.entries.workers → IsBalancing x.entries y.entries x.seats y.seats → y.spots ≡ x.spots → y.starts ≡ x.starts → y.unclosed ≡ x.unclosed → y.names ≡ x.names → y.tenants ≡ x.tenants → y.comings ≡ x.comings → y.moved ≡ false → owed_in x.unclosed x.seats x.spots ≤ y.entries.room → Balanced x y
phase-balance x y hall due workers b spots starts unclosed names tenants comings moved room =
    let vs : List ℕ = b.volumes in
    let is : is_balancing_due x.entries.events x.seats ≡ true = due-is x hall due in
    let grown = hall-balance x y vs hall is b.fair workers b.events b.seats spots starts unclosed names tenants comings moved room in
    record { hall = grown.hall; has = record { shares = shares_by vs x.seats; grown = grown.events; allowed = balance-allowed x.entries.workers x.entries.events x.seats vs hall.seated b.fair is } }

-- a job's place is one of the seats
pub within-first : (x : Inside) (at : ℕ) (t : KeyedJob) → IsHall x → slice_get (states x.entries.events) at ≡ Some t → at < length x.seats
within-first x at t hall e = below x.seats at (sym (slice_get-map (λ (s : Seat). s.job.titled) x.seats at) ∙ (ap (λ (ts : List KeyedJob). slice_get ts at) (sym hall.seated.jobs) ∙ e))
  where
    below : (ss : List Seat) (n : ℕ) → option_map (λ (s : Seat). s.job.titled) (slice_get ss n) ≡ Some t → n < length ss
    below [] n f = absurd (cc)
    below (s ∷ ss) zero f = omega arith
    below (s ∷ ss) (suc n) f = omega (arith, below ss n f)

-- the seat of a job at a place
pub job-seat : (x : Inside) (at : ℕ) (t : KeyedJob) (s : Seat) → IsHall x → slice_get (states x.entries.events) at ≡ Some t → slice_get x.seats at ≡ Some s → s.job.titled ≡ t
job-seat x at t s hall e f = let both : Some s.job.titled ≡ Some t = sym (job-there x at s hall f) ∙ e in cc

pub read-seat : (x : Inside) (at : ℕ) (s : Seat) → at < length x.seats → s ≡ get_or x.seats at s → slice_get x.seats at ≡ Some s
read-seat x at s low read = slice_get_read x.seats (length x.seats) at s refl low read

pub record Exchanges (x y : Inside) : Type 0 where
  pub hall : IsHall y
  pub has : HasExchanged x.entries.workers x.entries.events y.entries.events

pub phase-exchange : (x y : Inside) (at : ℕ) (s : Seat) → IsHall x → Some (lives (states x.entries.events)) ≡ balanced x.entries.events → IsFirst x.entries.events at → slice_get x.seats at ≡ Some s → y.entries.workers ≡ x.entries.workers → y.entries.events ≡ x.entries.events ++ Exchange s.job.titled.key ∷ [] → y.seats ≡ slice_set x.seats at (record s { job = and_own s.job Exchanged }) → y.spots ≡ x.spots → y.starts ≡ x.starts → y.unclosed ≡ x.unclosed → IsAsNoted x y → owed_in x.unclosed x.seats x.spots ≤ y.entries.room → Exchanges x y
phase-exchange x y at s hall calm first sits workers events seats spots starts unclosed noted room =
    let same : s.job.titled ≡ first.job = job-seat x at first.job s hall first.place sits in
    let may : Allowed x.entries.workers x.entries.events (Exchange s.job.titled.key) = (first.job, record { balance = calm; first = first.first; key = ap (λ (t : KeyedJob). t.key) (sym same) }) in
    let grown = hall-exchange x y at s hall may sits workers events seats spots starts unclosed noted room in
    record { hall = grown.hall; has = record { key = s.job.titled.key; grown = grown.events; allowed = may } }

-- the seat of a node that may be started
pub record CanStart (x : Inside) (at index worker : ℕ) (s : Seat) : Type 0 where
  pub seat : slice_get x.seats at ≡ Some s
  pub allowed : Allowed x.entries.workers x.entries.events (Start s.job.titled.key index worker)
  pub startable : startable s.job.titled.state index ≡ true
  pub low : index ≤ 63

pub within-key : (x : Inside) (at : ℕ) (k : Key) → IsHall x → slice_get (keys_of x.entries.events) at ≡ Some k → at < length x.seats
within-key x at k hall e = below (states-at (keys_of x.entries.events) at e)
  where
    states-at : (ks : List Key) (n : ℕ) → slice_get ks n ≡ Some k → n < length ks
    states-at [] n f = absurd (cc)
    states-at (j ∷ ks) zero f = omega arith
    states-at (j ∷ ks) (suc n) f = omega (arith, states-at ks n f)

    below : at < length (keys_of x.entries.events) → at < length x.seats
    below low = omega (arith, low, ap (λ (ks : List Key). length ks) (seated-keys x.entries.events x.seats hall.seated.jobs), length-keys x.seats)
      where
        length-keys : (ss : List Seat) → length (seat_keys ss) ≡ length ss
        length-keys [] = refl
        length-keys (s ∷ ss) = ap suc (length-keys ss)

pub can-start : (x : Inside) (at index worker : ℕ) (s : Seat) → IsHall x → MayStartAt x.entries.workers x.entries.events at index worker → slice_get x.seats at ≡ Some s → CanStart x at index worker s
can-start x at index worker s hall may sits =
    let seated = hall.seated in
    let here : SitsAt x.entries.events at s.job.titled = sits-at x.entries.events x.seats at s seated.jobs sits in
    let both : Some s.job.titled.key ≡ Some may.key = sym here.place ∙ may.place in
    let key : may.key ≡ s.job.titled.key = cc in
    let mine : Allowed x.entries.workers x.entries.events (Start s.job.titled.key index worker) = subst (λ (k : Key). Allowed x.entries.workers x.entries.events (Start k index worker)) key may.allowed in
    record {
      seat = sits;
      allowed = mine;
      startable = subst (λ (t : KeyedJob). startable t.state index ≡ true) here.machine (picked-may x.entries.workers x.entries.events s.job.titled.key index worker mine.0 mine.1);
      low = (start-free x.entries.workers x.entries.events s.job.titled.key index worker seated.some_worker hall.bound seated.legal mine).low;
    }

pub record HasBegun (x y : Inside) (index worker : ℕ) (lease : Leased) : Type 0 where
  pub hall : IsHall y
  pub has : HasStarted x.entries.workers x.entries.events y.entries.events index worker lease

spot-at : (x : Inside) (w : ℕ) (spot : Spot) → IsHall x → w < x.entries.workers → get_or x.spots w None ≡ Some spot → IsAt x.entries.events (tags_of x.seats) (suc w) spot
spot-at x w spot hall low e = subst (λ (o : Option Spot). IsSpot x.entries.events (tags_of x.seats) (suc w) o) e (hall.spots.each w low)

set-spot : (os : List (Option Spot)) (n : ℕ) (spot : Spot) → n < length os → get_or (slice_set os n (Some spot)) n None ≡ Some spot
set-spot [] n spot low = absurd (omega (arith, low))
set-spot (o ∷ os) zero spot low = refl
set-spot (o ∷ os) (suc n) spot low = set-spot os n spot (omega (arith, low))

set-seat : (ss : List Seat) (n : ℕ) (s t : Seat) → slice_get ss n ≡ Some s → slice_get (slice_set ss n t) n ≡ Some t
set-seat [] n s t e = absurd (cc)
set-seat (x ∷ xs) zero s t e = refl
set-seat (x ∷ xs) (suc n) s t e = set-seat xs n s t e

pub phase-start : (x y : Inside) (at index worker start : ℕ) (s : Seat) (lease : Leased) → IsHall x → CanStart x at index worker s → IsLeaseOf s.job index start worker lease → start ≡ x.starts + 1 → y.entries.workers ≡ x.entries.workers → y.entries.events ≡ x.entries.events ++ Start s.job.titled.key index worker ∷ [] → y.seats ≡ slice_set x.seats at (record s { job = and_start s.job index start }) → y.spots ≡ slice_set x.spots (worker - 1) (Some (record { job = s.job.number; index = index; start = start })) → y.starts ≡ start → y.unclosed ≡ x.unclosed → IsAsNoted x y → owed_in x.unclosed x.seats x.spots + 1 ≤ y.entries.room → HasBegun x y index worker lease
phase-start x y at index worker start s lease hall can mine next workers events seats spots starts unclosed noted room =
    record { hall = grown.hall; has = record { key = s.job.titled.key; grown = events_are; allowed = can.allowed; lease_is = lease_is } }
  where
    w : ℕ
    w = worker - 1

    some : worker ≡ suc w
    some = omega (arith, can.allowed.1.some_worker)

    low : w < x.entries.workers
    low = omega (arith, can.allowed.1.some_worker, can.allowed.1.worker_bound)

    spot : Spot
    spot = record { job = s.job.number; index = index; start = start }

    after : Seat
    after = reseated s (and_start s.job index start)

    grown : Grown x y (Start s.job.titled.key index (suc w) ∷ [])
    grown = hall-start x y at s index w start hall can.seat low (subst (λ (v : ℕ). Allowed x.entries.workers x.entries.events (Start s.job.titled.key index v)) some can.allowed) next workers (subst (λ (v : ℕ). y.entries.events ≡ x.entries.events ++ Start s.job.titled.key index v ∷ []) some events) seats spots starts unclosed noted room

    events_are : y.entries.events ≡ x.entries.events ++ Start s.job.titled.key index worker ∷ []
    events_are = subst (λ (v : ℕ). y.entries.events ≡ x.entries.events ++ Start s.job.titled.key index v ∷ []) (sym some) grown.events

    seat : slice_get y.seats at ≡ Some after
    seat = ap (λ (ss : List Seat). slice_get ss at) seats ∙ set-seat x.seats at s after can.seat

    taken : get_or y.spots w None ≡ Some spot
    taken = ap (λ (os : List (Option Spot)). get_or os w None) spots ∙ set-spot x.spots w spot (omega (arith, low, hall.spots.count))

    here : IsAt y.entries.events (tags_of y.seats) worker spot
    here = subst (λ (v : ℕ). IsAt y.entries.events (tags_of y.seats) v spot) (sym some) (spot-at y w spot grown.hall (omega (arith, low, workers)) taken)

    held : LeaseOut
    held = record { worker = worker; key = s.job.titled.key; index = index }

    journal : lease.journal ≡ lease_journal y.entries.events held
    journal = mine.journal ∙ journal-of y.entries.workers y.entries.events y.seats y.spots at after worker spot grown.hall.seated grown.hall.spots (record { is = seat; number = refl }) here

    out : (place_at after.job.titled.state index).out ≡ Some (record { revision = current s.job.titled.state; adds = start_entries s.job.titled.state (place_at s.job.titled.state index) })
    out = ap (λ (p : NodeSlot). p.out) (places.set-here s.job.titled.state.places index _ (within (sits-at x.entries.events x.seats at s hall.seated.jobs can.seat)))
      where
        within : SitsAt x.entries.events at s.job.titled → index < length s.job.titled.state.places
        within sits = omega (arith, can.low, ap (λ (t : KeyedJob). length t.state.places) sits.machine, (solo-tidy (own s.job.titled.key x.entries.events)).places.count)

    adds : lease.adds ≡ lease_adds y.entries.events held
    adds = mine.adds ∙ sym (adds-of y.entries.workers y.entries.events y.seats after at worker index _ grown.hall.seated seat out)

    lease_is : handed_of lease ≡ handed y.entries.events held
    lease_is =
        ap (λ (j : Journaled). let h : Handed = record { journal = j; adds = lease.adds; worker = lease.worker } in h) journal
        ∙ (ap (λ (es : List JournalEntry). let h : Handed = record { journal = lease_journal y.entries.events held; adds = es; worker = lease.worker } in h) adds
        ∙ ap (λ (v : ℕ). let h : Handed = record { journal = lease_journal y.entries.events held; adds = lease_adds y.entries.events held; worker = v } in h) mine.worker)

-- the seat of the lease at a spot
pub record SpotSeat (x : Inside) (worker : ℕ) (spot : Spot) (at : ℕ) (s : Seat) : Type 0 where
  pub seat : IsSeatAt x.seats spot at s
  pub is : IsAt x.entries.events (tags_of x.seats) worker spot
  pub taken : get_or x.spots (worker - 1) None ≡ Some spot
  pub worker_is : IsWorker x.entries.workers worker

taken-low : (os : List (Option Spot)) (n : ℕ) (spot : Spot) → get_or os n None ≡ Some spot → n < length os
taken-low [] n spot e = absurd (cc)
taken-low (o ∷ os) zero spot e = omega arith
taken-low (o ∷ os) (suc n) spot e = omega (arith, taken-low os n spot e)

pub spot-is : (x : Inside) (sp : List (Option Spot)) (worker : ℕ) (o : Option Spot) (spot : Spot) → IsHall x → sp ≡ x.spots → 1 ≤ worker → o ≡ get_or sp (worker - 1) None → o ≡ Some spot → IsAt x.entries.events (tags_of x.seats) worker spot
spot-is x sp worker o spot hall same low scan is =
    let taken : get_or x.spots (worker - 1) None ≡ Some spot = ap (λ (os : List (Option Spot)). get_or os (worker - 1) None) (sym same) ∙ (sym scan ∙ is) in
    let some : worker ≡ suc (worker - 1) = omega (arith, low) in
    let within : worker - 1 < x.entries.workers = omega (arith, taken-low x.spots (worker - 1) spot taken, hall.spots.count) in
    subst (λ (v : ℕ). IsAt x.entries.events (tags_of x.seats) v spot) (sym some) (spot-at x (worker - 1) spot hall within taken)

-- the number of a lease that is out has a place
pub spot-there : (x : Inside) (worker : ℕ) (spot : Spot) (p : Option ℕ) → IsAt x.entries.events (tags_of x.seats) worker spot → p ≡ place_numbered spot.job x.seats → p ≡ None → ⊥
spot-there x worker spot p is scan none = spot-placed x.entries.events x.seats worker spot is (sym scan ∙ none)

-- which is one of the seats
pub spot-within : (x : Inside) (spot : Spot) (p : Option ℕ) (at : ℕ) → p ≡ place_numbered spot.job x.seats → p ≡ Some at → at < length x.seats
spot-within x spot p at scan is = below x.seats at (spot-sits x.seats spot at (sym scan ∙ is)).0 (spot-sits x.seats spot at (sym scan ∙ is)).1.is
  where
    below : (ss : List Seat) (n : ℕ) (s : Seat) → slice_get ss n ≡ Some s → n < length ss
    below [] n s f = absurd (cc)
    below (x ∷ xs) zero s f = omega arith
    below (x ∷ xs) (suc n) s f = omega (arith, below xs n s f)

-- the seat that is read there is that of the spot
pub spot-seat : (x : Inside) (sp : List (Option Spot)) (worker : ℕ) (o : Option Spot) (spot : Spot) (p : Option ℕ) (at : ℕ) (s : Seat) → IsHall x → sp ≡ x.spots → 1 ≤ worker → o ≡ get_or sp (worker - 1) None → o ≡ Some spot → p ≡ place_numbered spot.job x.seats → p ≡ Some at → s ≡ get_or x.seats at s → SpotSeat x worker spot at s
spot-seat x sp worker o spot p at s hall same low scan found place there read =
    let is = spot-is x sp worker o spot hall same low scan found in
    let taken : get_or x.spots (worker - 1) None ≡ Some spot = ap (λ (os : List (Option Spot)). get_or os (worker - 1) None) (sym same) ∙ (sym scan ∙ found) in
    let within : worker - 1 < x.entries.workers = omega (arith, taken-low x.spots (worker - 1) spot taken, hall.spots.count) in
    let sits = spot-sits x.seats spot at (sym place ∙ there) in
    let mine : slice_get x.seats at ≡ Some s = read-seat x at s (spot-within x spot p at place there) read in
    let both : Some sits.0 ≡ Some s = sym sits.1.is ∙ mine in
    let equal : sits.0 ≡ s = cc in
    record {
      seat = record { is = mine; number = ap (λ (t : Seat). t.job.number) (sym equal) ∙ sits.1.number };
      is = is;
      taken = taken;
      worker_is = record { low = low; high = omega (arith, within, low) };
    }

-- what came back is of the lease at a spot, or is strange
pub back-is : (x : Inside) (spot : Spot) (n : ℕ) (s : Seat) (d : Finished) → IsHall x → SpotSeat x d.worker spot n s → IsBack s.job spot.index d → (l : LeaseOut) × IsOfLease x.entries.events d l
back-is x spot n s d hall at back = (held_at s d.worker spot.index, back-lease x.entries.workers x.entries.events x.seats x.spots n s spot d hall.seated hall.spots at.seat at.is back)

pub back-not : (x : Inside) (spot : Spot) (n : ℕ) (s : Seat) (d : Finished) → IsHall x → SpotSeat x d.worker spot n s → (IsBack s.job spot.index d → ⊥) → (l : LeaseOut) → IsOfLease x.entries.events d l → ⊥
back-not x spot n s d hall at other l of = other (lease-back x.entries.workers x.entries.events x.seats x.spots n s spot d l hall.seated.some_worker hall.bound hall.seated hall.spots at.seat at.is of)

pub kept-is : (x : Inside) (spot : Spot) (n : ℕ) (s : Seat) (worker : ℕ) → IsHall x → SpotSeat x worker spot n s → Some spot.start ≡ option_map (λ (l : LeaseOut). start_number l.worker x.entries.events) (lease_of worker (leases x.entries.events))
kept-is x spot n s worker hall at = ap (λ (m : ℕ). let o : Option ℕ = Some m in o) at.is.number ∙ sym (ap (option_map (λ (l : LeaseOut). start_number l.worker x.entries.events)) at.is.out)

-- a worker without a spot has no lease
pub none-out : (x : Inside) (sp : List (Option Spot)) (worker : ℕ) (o : Option Spot) → IsHall x → sp ≡ x.spots → 1 ≤ worker → o ≡ get_or sp (worker - 1) None → o ≡ None → lease_of worker (leases x.entries.events) ≡ None
none-out x sp worker o hall same low scan none = by_lease (lease_of worker (leases x.entries.events)) (sym (phase-lease x sp worker o hall same low scan) ∙ ap (λ (p : Option Spot). is_some p) none)
  where
    by_lease : (l : Option LeaseOut) → is_some l ≡ false → l ≡ None
    by_lease None e = refl
    by_lease (Some l) e = absurd (cc)

pub strange-none : (past : List Event) (d : Finished) → lease_of d.worker (leases past) ≡ None → (l : LeaseOut) → IsOfLease past d l → ⊥
strange-none past d none l of = let both : None ≡ Some l = sym none ∙ of.out in absurd (cc)

pub zero-out : (x : Inside) → IsHall x → lease_of 0 (leases x.entries.events) ≡ None
zero-out x hall = zero-lease x.entries.workers x.entries.events hall.seated.some_worker hall.bound hall.seated.legal

may-finish : (x : Inside) (worker : ℕ) (spot : Spot) (n : ℕ) (s : Seat) (back : Option Finished) → IsHall x → SpotSeat x worker spot n s → MayEnd x.entries.events worker back → MayFinish s.job spot.index back
may-finish x worker spot n s None hall at may = spot-out x.entries.workers x.entries.events x.seats x.spots n s worker spot hall.seated.some_worker hall.bound hall.seated hall.spots at.seat at.is
may-finish x worker spot n s (Some d) hall at may =
    let same : d.worker ≡ worker = may.belongs.0 ∙ may.worker_is in
    lease-back x.entries.workers x.entries.events x.seats x.spots n s spot d may.lease hall.seated.some_worker hall.bound hall.seated hall.spots at.seat (subst (λ (v : ℕ). IsAt x.entries.events (tags_of x.seats) v spot) (sym same) at.is) may.belongs.1

-- there is room for a finish
end-room : (x : Inside) (worker : ℕ) (spot : Spot) (n : ℕ) (s : Seat) → IsHall x → SpotSeat x worker spot n s → 1 ≤ x.entries.room
end-room x worker spot n s hall at = omega (arith, hall.room, out-left x.spots (worker - 1) spot at.taken)

-- the lease of a worker at a spot may end so
pub record EndsAt (x : Inside) (worker : ℕ) (spot : Spot) (at : ℕ) (back : Option Finished) : Type 0 where
  pub seat : Seat
  pub sits : SpotSeat x worker spot at seat
  pub place : at < length x.seats
  pub may : OfSeat x.seats at (λ s. MayFinish s.job spot.index back)
  pub room : 1 ≤ x.entries.room

pub ends-at : (x : Inside) (sp : List (Option Spot)) (worker : ℕ) (o : Option Spot) (spot : Spot) (p : Option ℕ) (at : ℕ) (back : Option Finished) → IsHall x → sp ≡ x.spots → 1 ≤ worker → o ≡ get_or sp (worker - 1) None → o ≡ Some spot → p ≡ place_numbered spot.job x.seats → p ≡ Some at → MayEnd x.entries.events worker back → EndsAt x worker spot at back
ends-at x sp worker o spot p at back hall same low scan found placed is may =
    let within = spot-within x spot p at placed is in
    let there = seat-there x.seats at within in
    let s : Seat = there.0 in
    let sits = spot-seat x sp worker o spot p at s hall same low scan found placed is (sym (get_or_from_slice_get x.seats at s s there.1)) in
    record {
      seat = s;
      sits = sits;
      place = within;
      may = of-seat (λ (t : Seat). MayFinish t.job spot.index back) x.seats at s sits.seat.is (may-finish x worker spot at s back hall sits may);
      room = end-room x worker spot at s hall sits;
    }

-- a lease ends
pub record Ended (x y : Inside) (worker : ℕ) (outcome : Outcome) : Type 0 where
  pub hall : IsHall y
  pub has : HasEnded x.entries.events y.entries.events worker outcome

pub phase-end : (x y : Inside) (worker : ℕ) (spot : Spot) (n : ℕ) (s : Seat) (outcome : Outcome) → IsHall x → SpotSeat x worker spot n s → y.entries.workers ≡ x.entries.workers → y.entries.events ≡ x.entries.events ++ Finish s.job.titled.key spot.index worker outcome ∷ [] → y.seats ≡ slice_set x.seats n (record s { job = and_own s.job (Done spot.index outcome) }) → y.spots ≡ slice_set x.spots (worker - 1) None → y.starts ≡ x.starts → y.unclosed ≡ x.unclosed → IsAsNoted x y → y.entries.room + 1 ≡ x.entries.room → Ended x y worker outcome
phase-end x y worker spot n s outcome hall at workers events seats spots starts unclosed noted room =
    let w : ℕ = worker - 1 in
    let some : worker ≡ suc w = omega (arith, at.worker_is.low) in
    let held : lease_of worker (leases x.entries.events) ≡ Some (held_at s worker spot.index) = spot-held x.entries.workers x.entries.events x.seats x.spots n s worker spot hall.seated hall.spots at.seat at.is in
    let grown = hall-finish x y n s spot.index w outcome spot hall at.seat.is (subst (λ (v : ℕ). Allowed x.entries.workers x.entries.events (Finish s.job.titled.key spot.index v outcome)) some held) at.taken workers (subst (λ (v : ℕ). y.entries.events ≡ x.entries.events ++ Finish s.job.titled.key spot.index v outcome ∷ []) some events) seats spots starts unclosed noted room in
    record { hall = grown.hall; has = record { lease = held_at s worker spot.index; out = held; grown = subst (λ (v : ℕ). y.entries.events ≡ x.entries.events ++ Finish s.job.titled.key spot.index v outcome ∷ []) (sym some) grown.events } }

-- the worker of a lease that is found
found-worker : (worker : ℕ) (ls : List LeaseOut) (l : LeaseOut) → lease_of worker ls ≡ Some l → l.worker ≡ worker
found-worker worker [] l e = absurd (cc)
found-worker worker (y ∷ ys) l e = by_test (y.worker == worker) refl e (found-worker worker ys l)
  where
    by_test : (b : Bool) → (y.worker == worker) ≡ b → cond b (Some y) (lease_of worker ys) ≡ Some l → (lease_of worker ys ≡ Some l → l.worker ≡ worker) → l.worker ≡ worker
    by_test true p q rest = let same : y ≡ l = cc in ap (λ (h : LeaseOut). h.worker) (sym same) ∙ (Decides-eqb y.worker worker).0 p
    by_test false p q rest = rest q

-- a lease that is out may be lost
pub may-lose : (past : List Event) (worker : ℕ) → is_some (lease_of worker (leases past)) ≡ true → MayEnd past worker None
may-lose past worker some = by_lease (lease_of worker (leases past)) refl some
  where
    by_lease : (o : Option LeaseOut) → lease_of worker (leases past) ≡ o → is_some o ≡ true → MayEnd past worker None
    by_lease None e q = absurd (cc)
    by_lease (Some l) e q =
        let same : l.worker ≡ worker = found-worker worker (leases past) l e in
        record { lease = l; worker_is = same; belongs = ap (λ (v : ℕ). lease_of v (leases past)) same ∙ e }

-- one that came back may end
pub may-return : (x : Inside) (spot : Spot) (n : ℕ) (s : Seat) (d : Finished) → IsHall x → SpotSeat x d.worker spot n s → IsBack s.job spot.index d → MayEnd x.entries.events d.worker (Some d)
may-return x spot n s d hall at back =
    let of = back-is x spot n s d hall at back in
    let same : of.0.worker ≡ d.worker = found-worker d.worker (leases x.entries.events) of.0 of.1.out in
    record { lease = of.0; worker_is = same; belongs = (sym same, of.1) }

-- the lease that may end is out
pub end-held : (past : List Event) (worker : ℕ) (back : Option Finished) (may : MayEnd past worker back) → lease_of worker (leases past) ≡ Some may.lease
end-held past worker None may = ap (λ (v : ℕ). lease_of v (leases past)) (sym may.worker_is) ∙ may.belongs
end-held past worker (Some d) may = ap (λ (v : ℕ). lease_of v (leases past)) (sym may.worker_is ∙ sym may.belongs.0) ∙ may.belongs.1.out

-- where a lease may end its worker has a spot
pub end-spot : (x : Inside) (sp : List (Option Spot)) (worker : ℕ) (o : Option Spot) (back : Option Finished) → IsHall x → sp ≡ x.spots → 1 ≤ worker → o ≡ get_or sp (worker - 1) None → o ≡ None → MayEnd x.entries.events worker back → ⊥
end-spot x sp worker o back hall same low scan none may =
    let both : None ≡ Some may.lease = sym (none-out x sp worker o hall same low scan none) ∙ end-held x.entries.events worker back may in
    absurd (cc)

-- worker 0 has no lease
pub zero-none : (x : Inside) (worker v : ℕ) → IsHall x → v ≡ worker → v ≡ 0 → lease_of worker (leases x.entries.events) ≡ None
zero-none x worker v hall same zero_is = ap (λ (n : ℕ). lease_of n (leases x.entries.events)) (sym same ∙ zero_is) ∙ zero-out x hall

pub kept-none : (past : List Event) (worker : ℕ) → lease_of worker (leases past) ≡ None → None ≡ option_map (λ (l : LeaseOut). start_number l.worker past) (lease_of worker (leases past))
kept-none past worker none = sym (ap (option_map (λ (l : LeaseOut). start_number l.worker past)) none)

-- what a test says
pub test-not : {P : Type 0} (b : Bool) → IsTrue b ↔ P → b ≡ false → P → ⊥
test-not b e q p = both_ways b q (e.1 p)

pub test-yes : {P : Type 0} (b : Bool) → IsTrue b ↔ P → b ≡ true → P
test-yes b e q = e.0 q

-- nothing was entered
pub arranged-none : (w : ℕ) (past now : List Event) → now ≡ past → HasArranged w past now
arranged-none w past now same = record { events = []; grown = same ∙ sym (append-nil past); due = due-none w past }

-- a balancing was entered
pub arranged-balance : (w : ℕ) (past now : List Event) → HasBalanced w past now → HasArranged w past now
arranged-balance w past now has = record { events = Balance has.shares ∷ []; grown = has.grown; due = record { kinds = refl; legal = (has.allowed, tt) } }

pub balance-after : (w : ℕ) (past now : List Event) → 1 ≤ w → Legal w past → HasBalanced w past now → Some (lives (states now)) ≡ balanced now
balance-after w past now some legal has = subst (λ (h : List Event). Some (lives (states h)) ≡ balanced h) (sym has.grown) (balance-calm w past has.shares some legal has.allowed)

-- an exchange was entered
pub arranged-exchange : (w : ℕ) (past now : List Event) → HasExchanged w past now → HasArranged w past now
arranged-exchange w past now has = record { events = Exchange has.key ∷ []; grown = has.grown; due = record { kinds = refl; legal = (has.allowed, tt) } }

pub exchange-after : (w : ℕ) (past now : List Event) → 1 ≤ w → Legal w past → HasExchanged w past now → Some (lives (states now)) ≡ balanced now
exchange-after w past now some legal has = subst (λ (h : List Event). Some (lives (states h)) ≡ balanced h) (sym has.grown) (exchange-calm w past has.key some legal has.allowed)

pub exchange-left : (w : ℕ) (past now : List Event) → 1 ≤ w → Legal w past → HasExchanged w past now → left_in now < left_in past
exchange-left w past now some legal has = subst (λ (h : List Event). left_in h < left_in past) (sym has.grown) (arranged-left w past (Exchange has.key) some legal refl has.allowed)

-- how what is due is entered in one step
pub ruleset arranging = (arranged-none, arranged-balance, arranged-exchange)

-- one after the other
pub arranged-more : (v w : ℕ) (a b c : List Event) → v ≡ w → HasArranged w a b → HasArranged v b c → HasArranged w a c
arranged-more v w a b c same one two =
    let next : AreDue w b two.events = subst (λ (n : ℕ). AreDue n b two.events) same two.due in
    record { events = one.events ++ two.events; grown = two.grown ∙ (ap (λ (h : List Event). h ++ two.events) one.grown ∙ append_assoc a one.events two.events); due = due-more w a one.events two.events one.due (subst (λ (h : List Event). AreDue w h two.events) one.grown next) }

-- a worker has nothing out, and something is left
pub may-pick : (past : List Event) (worker : ℕ) (busy over : Bool) → busy ≡ is_some (lease_of worker (leases past)) → busy ≡ false → over ≡ is_over past → over ≡ false → MayPick past worker
may-pick past worker busy over scan free test left = record { free = none (lease_of worker (leases past)) (sym scan ∙ free); more = sym test ∙ left }
  where
    none : (o : Option LeaseOut) → is_some o ≡ false → o ≡ None
    none None e = refl
    none (Some l) e = absurd (cc)

-- the answers to a pick
pub pick-busy : (w : ℕ) (past : List Event) (worker : ℕ) → is_some (lease_of worker (leases past)) ≡ true → HasCalled w past (Picks worker) (Err Busy) past
pick-busy w past worker busy = record { events = []; grown = sym (append-nil past); call = (busy, refl) }

pub pick-done : (w : ℕ) (past : List Event) (worker : ℕ) → is_over past ≡ true → HasCalled w past (Picks worker) (Ok AllDone) past
pick-done w past worker over = record { events = []; grown = sym (append-nil past); call = (over, refl) }

pub pick-wanting : (w : ℕ) (past now : List Event) (worker : ℕ) → MayPick past worker → HasArranged w past now → HasCalled w past (Picks worker) (Err OutOfMemory) now
pick-wanting w past now worker may has = record { events = has.events; grown = has.grown; call = record { may = may; due = has.due } }

pub pick-idle : (w : ℕ) (past now : List Event) (worker : ℕ) → MayPick past worker → HasArranged w past now → IsCalm now → picked (states now) ≡ None → HasCalled w past (Picks worker) (Ok Idle) now
pick-idle w past now worker may has calm none = record { events = has.events; grown = has.grown; call = record { may = may; due = has.due; idle = subst IsIdle has.grown (record { calm = calm; none = none }) } }

pub pick-start : (v w : ℕ) (past middle now : List Event) (worker index : ℕ) (lease : Leased) → v ≡ w → MayPick past worker → HasArranged w past middle → HasStarted v middle now index worker lease → HasCalled w past (Picks worker) (Ok (Offered (handed_of lease))) now
pick-start v w past middle now worker index lease same may has begun = record {
  events = has.events ++ Start begun.key index worker ∷ [];
  grown = whole;
  call = record {
    may = may;
    due = has.events;
    key = begun.key;
    index = index;
    events = refl;
    first = has.due;
    start = subst (λ (h : List Event). Allowed w h (Start begun.key index worker)) has.grown (subst (λ (n : ℕ). Allowed n middle (Start begun.key index worker)) same begun.allowed);
    lease_is = begun.lease_is ∙ ap (λ (h : List Event). handed h (record { worker = worker; key = begun.key; index = index })) whole;
  };
}
  where
    whole : now ≡ past ++ (has.events ++ Start begun.key index worker ∷ [])
    whole = begun.grown ∙ (ap (λ (h : List Event). h ++ Start begun.key index worker ∷ []) has.grown ∙ append_assoc past has.events (Start begun.key index worker ∷ []))

-- the node that is picked may be started by a worker that has nothing out
pub start-may : (v w : ℕ) (past middle : List Event) (worker : ℕ) (o : Option Candidate) (c : Candidate) → v ≡ w → 1 ≤ worker → worker ≤ w → MayPick past worker → HasArranged w past middle → IsCalm middle → o ≡ picked (states middle) → o ≡ Some c → MayStartAt v middle c.job c.index worker
start-may v w past middle worker o c same low high may has calm scan is = by_key (slice_get (keys_of middle) c.job) refl
  where
    chosen : IsCandidate 0 (states middle) c
    chosen = fewest-All (IsCandidate 0 (states middle)) (candidates_from 0 (states middle)) None (λ b e. absurd (cc)) (candidates-may 0 (states middle)) c (sym scan ∙ is)

    within : c.job < length (keys_of middle)
    within = omega (arith, chosen.within, length-states (keys_of middle))
      where
        length-states : (ks : List Key) → length (map (titled middle) ks) ≡ length ks
        length-states [] = refl
        length-states (k ∷ ks) = ap suc (length-states ks)

    free : lease_of worker (leases middle) ≡ None
    free = ap (λ (h : List Event). lease_of worker (leases h)) has.grown ∙ (ap (lease_of worker) (due-leases past has.events has.due.kinds) ∙ may.free)

    inside : (ks : List Key) (n : ℕ) → n < length ks → slice_get ks n ≡ None → ⊥
    inside [] n l e = omega (arith, l)
    inside (k ∷ ks) zero l e = absurd (cc)
    inside (k ∷ ks) (suc n) l e = inside ks n (omega (arith, l)) e

    by_key : (p : Option Key) → slice_get (keys_of middle) c.job ≡ p → MayStartAt v middle c.job c.index worker
    by_key None e = absurd (inside (keys_of middle) c.job within e)
    by_key (Some k) e = record {
      key = k;
      place = e;
      allowed = (
        c,
        record {
          balance = calm.balance;
          exchange = calm.exchange;
          first = sym scan ∙ is;
          key = e;
          place = refl;
          some_worker = low;
          worker_bound = omega (arith, same, high);
          idle = free;
        },
      );
    }

pub arranged-same : (w : ℕ) (past middle now : List Event) → now ≡ middle → HasArranged w past middle → HasArranged w past now
arranged-same w past middle now same has = record { events = has.events; grown = same ∙ has.grown; due = has.due }

-- a job that is not there has no revisions
pub among-none : (jobs : List KeyedJob) (k : Key) (r : ℕ) → job_of k jobs ≡ None → None ≡ among r (revisions_of k jobs)
among-none jobs k zero none = refl
among-none jobs k (suc n) none = sym (ap (λ (o : Option KeyedJob). slice_get (option_map_or (λ (t : KeyedJob). t.state.revisions) o []) n) none)

-- one that is found has those of its machine
pub among-found : (jobs : List KeyedJob) (k : Key) (r : ℕ) (t : KeyedJob) → job_of k jobs ≡ Some t → among r t.state.revisions ≡ among r (revisions_of k jobs)
among-found jobs k r t found = sym (ap (λ (o : Option KeyedJob). among r (option_map_or (λ (u : KeyedJob). u.state.revisions) o [])) found)
