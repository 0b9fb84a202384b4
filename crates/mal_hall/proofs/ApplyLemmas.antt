-- What the calls of a hall say of an event that was written down.
use Rattle.std.proofs.Common.{◌≡◌, ℕ, zero, suc, ◌+◌, ◌-◌, ◌<◌, ◌≤◌, Bool, true, false, cond, not, ◌&&◌, ◌==◌, List, [], ◌∷◌, ◌++◌, length, get_or, slice_get, slice_set, map, Option, Some, None, option_map, is_some, Result, Ok, Err, refl, sym, ◌∙◌, ap, subst, arith, length-append}
use Rattle.std.specs.Option.{option_map_or}
use Rattle.std.specs.List.{list_all}
use Rattle.std.specs.Prelude.{IsTrue, nat_eq, ◌↔◌}
use Rattle.std.proofs.lemmas.Bool.Decides.{Decides-eqb}
use Rattle.std.proofs.lemmas.List.{map-append, map-set}
use Rattle.std.proofs.lemmas.Option.{slice_get-map, slice_get_read}
use Rattle.mal_base.specs.Asks.{Terms, Weighed}
use Rattle.mal_base.specs.declared.verdict.Outcome.{Outcome}
use Rattle.mal_base.specs.declared.verdict.Outcome.TheVariants.{Ran, Starved, Lost}
use Rattle.mal_hall.specs.Applied.{Enters, HasEntered, IsBackOf, IsLodged, StartsAt, listed_in, listed_last, unrun}
use Rattle.mal_hall.specs.Offered.{HasBalanced, HasEnded, HasExchanged, HasStarted, IsFirst, MayEnd, handed_of}
use Rattle.mal_hall.specs.HallView.{Inside, IsHall, HallView, next_number, out_in}
use Rattle.mal_history.specs.declared.event.Event as written
use Rattle.mal_history.specs.declared.event.Event.TheVariants as of
use Rattle.mal_history.specs.declared.event.Share.{Share}
use Rattle.mal_job.specs.Finishing.{MayFinish, MayStarve}
use Rattle.mal_revision.specs.Posted.{Posted}
use Rattle.mal_suspend.specs.Kept.{journal_of, is_gone}
use Rattle.mal_suspend.specs.declared.kept.Kept.{Kept}
use Rattle.spec_job.specs.Journal.{JournalEntry}
use Rattle.spec_job.specs.Journaled.{Journaled}
use Rattle.spec_job.specs.Leased.{Becomes, Finished, Leased}
use Rattle.spec_job.specs.KeyedJob.{Key, KeyedJob}
use Rattle.spec_job.specs.SoloMachine.{Lease}
use Rattle.spec_job.specs.Viewed.{IsGrownBy, JobView}
use Rattle.spec_hall.specs.Calls.{AnswerTo, Call, Handed, HasCalled, IsCall, Opens, Revises, Reasks, handed, wanted}
use Rattle.spec_hall.specs.Events.{Event, Open, Revise, Reask, Balance, Start, Finish, Exchange, bare}
use Rattle.spec_hall.specs.Legal.{Allowed, MayExchange, MayRevise, job_of}
use Rattle.spec_hall.specs.Leases.{lease_adds, lease_journal}
use Rattle.spec_hall.specs.States.{Candidate, LeaseOut, balanced, exchange_due, keys_of, lease_of, leases, live_of, live_ones, lives, picked, states, titled}
use Rattle.mal_base.specs.declared.hall_fault.OpenFault.{OpenFault}
use Rattle.mal_base.specs.declared.hall_fault.ReviseFault.{ReviseFault}
use Rattle.mal_base.specs.declared.hall_fault.ReaskFault.{ReaskFault}
use Rattle.spec_hall.proofs.DecidedCallLemmas.{call-is_decided}
use Rattle.spec_hall.proofs.DrivenLemmas.{balances-decided, nodes-decided}
use Rattle.mal_hall.proofs.NumberLemmas.{spot-sits}
use Rattle.mal_seats.specs.Numbered.{place_numbered}
use Rattle.mal_hall.proofs.InsideLemmas.{Stands, inside-finish, inside-start}
use Rattle.spec_hall.proofs.KeyLemmas.{is_key-Decides}
use Rattle.spec_hall.proofs.LeasesLemmas.{lease-worker}
use Rattle.spec_hall.proofs.SeatLemmas.{seated-keys}
use Rattle.spec_hall.specs.Leases.{IsWorker}
use Rattle.spec_hall.specs.Own.{is_key}
use Rattle.spec_hall.specs.Seats.{Seat, is_live_seat, jobs_in}
use Rattle.spec_hall.proofs.JournalLemmas.{IsSeatAt, held_at, spot-held, spots-home}
use Rattle.spec_hall.specs.Spots.{IsAt, Spot, tags_of}
use Rattle.mal_base.specs.declared.hall_fault.ApplyFault.{ApplyFault}

-- a call that was refused is not one that might have been answered
otherwise : (w : ℕ) (past now : List Event) (c : Call) (answer one : AnswerTo c) (es : List Event) → HasCalled w past c answer now → IsCall w past c one es → wanted c one ≡ false → wanted c answer ≡ false → one ≡ answer
otherwise w past now c answer one es has is first second = (call-is_decided w past c one answer es has.events is has.call (first ∙ sym second)).0

pub open-refused : (w : ℕ) (past now : List Event) (k : Key) (ask : Terms) (fault : OpenFault) → HasCalled w past (Opens k ask) (Err fault) now → wanted (Opens k ask) (Err fault) ≡ false → Allowed w past (Open k ask) → ⊥
open-refused w past now k ask fault has refused may =
    let same : Ok tt ≡ Err fault = otherwise w past now (Opens k ask) (Err fault) (Ok tt) (Open k ask ∷ []) has (may, refl) refl refused in
    absurd (cc)

pub open-entered : (w : ℕ) (past now : List Event) (k : Key) (ask : Terms) → HasCalled w past (Opens k ask) (Ok tt) now → HasEntered w past (Open k ask) now
open-entered w past now k ask has = record { allowed = has.call.0; grown = has.grown ∙ ap (λ (es : List Event). past ++ es) has.call.1 }

pub revise-refused : (w : ℕ) (past now : List Event) (k : Key) (number : ℕ) (r : Posted) (fault : ReviseFault) → HasCalled w past (Revises k r) (Err fault) now → wanted (Revises k r) (Err fault) ≡ false → Allowed w past (Revise k number r) → ⊥
revise-refused w past now k number r fault has refused may =
    let t : KeyedJob = may.0 in
    let here : MayRevise past k (length t.state.revisions + 1) r t = subst (λ (n : ℕ). MayRevise past k n r t) may.1.next may.1 in
    let same : Ok tt ≡ Err fault = otherwise w past now (Revises k r) (Err fault) (Ok tt) (Revise k (length t.state.revisions + 1) r ∷ []) has (t, here, refl) refl refused in
    absurd (cc)

pub reask-refused : (w : ℕ) (past now : List Event) (k : Key) (weight : Weighed) (fault : ReaskFault) → HasCalled w past (Reasks k weight) (Err fault) now → wanted (Reasks k weight) (Err fault) ≡ false → Allowed w past (Reask k weight) → ⊥
reask-refused w past now k weight fault has refused may =
    let same : Ok tt ≡ Err fault = otherwise w past now (Reasks k weight) (Err fault) (Ok tt) (Reask k weight ∷ []) has (may.0, may.1, refl) refl refused in
    absurd (cc)

pub reask-entered : (w : ℕ) (past now : List Event) (k : Key) (weight : Weighed) → HasCalled w past (Reasks k weight) (Ok tt) now → HasEntered w past (Reask k weight) now
reask-entered w past now k weight has = record { allowed = (has.call.0, has.call.1); grown = has.grown ∙ ap (λ (es : List Event). past ++ es) has.call.2 }

-- the last event of a hall in which a balancing was entered lists its volumes
last-get : (es : List written.Event) (e : written.Event) → slice_get (es ++ e ∷ []) (length (es ++ e ∷ []) - 1) ≡ Some e
last-get es e = ap (λ (n : ℕ). slice_get (es ++ e ∷ []) n) place ∙ behind es
  where
    place : length (es ++ e ∷ []) - 1 ≡ length es
    place = omega (arith, length-append es (e ∷ []))

    behind : (xs : List written.Event) → slice_get (xs ++ e ∷ []) (length xs) ≡ Some e
    behind [] = refl
    behind (x ∷ xs) = behind xs

balanced-last : (w : ℕ) (past now : List Event) (has : HasBalanced w past now) → listed_last (map bare now) ≡ Some has.shares
balanced-last w past now has =
    ap listed_last (ap (map bare) has.grown ∙ map-append bare past (Balance has.shares ∷ []))
    ∙ ap (λ (o : Option written.Event). option_map_or listed_in o None) (last-get (map bare past) (of.Balance has.shares))

pub balance-entered : (w : ℕ) (past now : List Event) (volumes : List Share) → HasBalanced w past now → listed_last (map bare now) ≡ Some volumes → HasEntered w past (Balance volumes) now
balance-entered w past now volumes has is =
    let both : Some has.shares ≡ Some volumes = sym (balanced-last w past now has) ∙ is in
    let same : has.shares ≡ volumes = cc in
    record { allowed = subst (λ (s : List Share). Allowed w past (Balance s)) same has.allowed; grown = has.grown ∙ ap (λ (s : List Share). past ++ Balance s ∷ []) same }

pub balance-refused : (w : ℕ) (past now : List Event) (volumes : List Share) → HasBalanced w past now → (listed_last (map bare now) ≡ Some volumes → ⊥) → Allowed w past (Balance volumes) → ⊥
balance-refused w past now volumes has other may = other (balanced-last w past now has ∙ ap Some (balances-decided w past has.shares volumes has.allowed may))

-- the key of a job at a place
key-at : (past : List Event) (at : ℕ) (t : KeyedJob) → slice_get (states past) at ≡ Some t → slice_get (keys_of past) at ≡ Some t.key
key-at past at t e = by_key (slice_get (keys_of past) at) refl
  where
    by_key : (o : Option Key) → slice_get (keys_of past) at ≡ o → o ≡ Some t.key
    by_key None q = let both : None ≡ Some t = sym (slice_get-map (titled past) (keys_of past) at ∙ ap (option_map (titled past)) q) ∙ e in absurd (cc)
    by_key (Some k) q =
        let both : Some (titled past k) ≡ Some t = sym (slice_get-map (titled past) (keys_of past) at ∙ ap (option_map (titled past)) q) ∙ e in
        let same : titled past k ≡ t = cc in
        ap (λ (u : KeyedJob). Some u.key) same

first-key : (past : List Event) (at : ℕ) (k : Key) (first : IsFirst past at) → slice_get (keys_of past) at ≡ Some k → first.job.key ≡ k
first-key past at k first named = let both : Some first.job.key ≡ Some k = sym (key-at past at first.job first.place) ∙ named in cc

first-job : (past : List Event) (at : ℕ) (k : Key) (t : KeyedJob) (first : IsFirst past at) → MayExchange past k t → first.job ≡ t
first-job past at k t first may = let both : Some first.job ≡ Some t = sym first.first ∙ may.first in cc

pub exchange-entered : (w : ℕ) (past now : List Event) (at : ℕ) (k : Key) → IsFirst past at → slice_get (keys_of past) at ≡ Some k → HasExchanged w past now → HasEntered w past (Exchange k) now
exchange-entered w past now at k first named has =
    let job : first.job ≡ has.allowed.0 = first-job past at has.key has.allowed.0 first has.allowed.1 in
    let same : has.key ≡ k = sym has.allowed.1.key ∙ (ap (λ (t : KeyedJob). t.key) (sym job) ∙ first-key past at k first named) in
    record { allowed = subst (λ (j : Key). Allowed w past (Exchange j)) same has.allowed; grown = has.grown ∙ ap (λ (j : Key). past ++ Exchange j ∷ []) same }

-- one that may be
pub start-may : (w v : ℕ) (past : List Event) (k : Key) (index worker : ℕ) (b : Bool) (o : Option Candidate) (c : Candidate) → v ≡ w → 1 ≤ worker → worker ≤ v → b ≡ is_some (lease_of worker (leases past)) → b ≡ false → Some (lives (states past)) ≡ balanced past → exchange_due (states past) ≡ None → o ≡ picked (states past) → o ≡ Some c → c.index ≡ index → slice_get (keys_of past) c.job ≡ Some k → StartsAt w past k index worker c.job
start-may w v past k index worker b o c same low high busy free calm exchange scan is place named = record {
  place = named;
  allowed = (
    c,
    record {
      balance = calm;
      exchange = exchange;
      first = sym scan ∙ is;
      key = named;
      place = place;
      some_worker = low;
      worker_bound = omega (arith, same, high);
      idle = none (lease_of worker (leases past)) (sym busy ∙ free);
    },
  );
}
  where
    none : (l : Option LeaseOut) → is_some l ≡ false → l ≡ None
    none None e = refl
    none (Some l) e = absurd (cc)

-- a lease that is handed out is that of the node
started-key : (w : ℕ) (past now : List Event) (k : Key) (index worker at : ℕ) (lease : Leased) → StartsAt w past k index worker at → (has : HasStarted w past now index worker lease) → has.key ≡ k
started-key w past now k index worker at lease is has = (nodes-decided w past has.key k index index worker worker has.allowed.0 is.allowed.0 has.allowed.1 is.allowed.1).0

pub start-entered : (w : ℕ) (past now : List Event) (k : Key) (index worker at : ℕ) (lease : Leased) → StartsAt w past k index worker at → HasStarted w past now index worker lease → HasEntered w past (Start k index worker) now
start-entered w past now k index worker at lease is has = record { allowed = is.allowed; grown = has.grown ∙ ap (λ (j : Key). past ++ Start j index worker ∷ []) (started-key w past now k index worker at lease is has) }

pub start-handed : (w : ℕ) (past now : List Event) (k : Key) (index worker at : ℕ) (lease : Leased) → StartsAt w past k index worker at → HasStarted w past now index worker lease → handed_of lease ≡ handed now (record { worker = worker; key = k; index = index })
start-handed w past now k index worker at lease is has = has.lease_is ∙ ap (λ (j : Key). let h : LeaseOut = record { worker = worker; key = j; index = index } in handed now h) (started-key w past now k index worker at lease is has)

-- the lease of a worker that is out is inside
pub lease-inside : (x : HallView) (k : Key) (index worker : ℕ) (o : Option Leased) → Stands x → 1 ≤ worker → worker ≤ x.workers → lease_of worker (leases x.events) ≡ Some (record { worker = worker; key = k; index = index }) → option_map handed_of o ≡ get_or x.inside (worker - 1) None → option_map handed_of o ≡ Some (handed x.events (record { worker = worker; key = k; index = index }))
lease-inside x k index worker o is low high out taken =
    let next : suc (worker - 1) ≡ worker = omega (arith, low) in
    taken
    ∙ (is.inside.each (worker - 1) (omega (arith, low, high))
    ∙ (ap (λ (n : ℕ). option_map (handed x.events) (lease_of n (leases x.events))) next ∙ ap (option_map (handed x.events)) out))

pub some-inside : (o : Option Leased) (h : Handed) → option_map handed_of o ≡ Some h → o ≡ None → ⊥
some-inside o h e none = let both : None ≡ Some h = ap (option_map handed_of) (sym none) ∙ e in absurd (cc)

pub handed-inside : (o : Option Leased) (l : Leased) (h : Handed) → option_map handed_of o ≡ Some h → o ≡ Some l → handed_of l ≡ h
handed-inside o l h e is = let both : Some (handed_of l) ≡ Some h = ap (option_map handed_of) (sym is) ∙ e in cc

-- what comes of it may end the lease
grown-as : (o : Outcome) (l : Leased) (d : Finished) → Becomes o l d → IsGrownBy o l.adds l.journal d.journal
grown-as Ran l d is = is
grown-as Starved l d is = is.0
grown-as Lost l d is = is

pub finish-may : (past : List Event) (held : LeaseOut) (l : Leased) (outcome : Outcome) (back : Option Finished) → lease_of held.worker (leases past) ≡ Some held → handed_of l ≡ handed past held → IsBackOf l outcome back → MayEnd past held.worker back
finish-may past held l outcome None out is came = record { lease = held; worker_is = refl; belongs = out }
finish-may past held l outcome (Some d) out is came =
    let worker : d.worker ≡ held.worker = came.comes.0 ∙ ap (λ (h : Handed). h.worker) is in
    let journal : l.journal ≡ lease_journal past held = ap (λ (h : Handed). h.journal) is in
    let adds : l.adds ≡ lease_adds past held = ap (λ (h : Handed). h.adds) is in
    record {
      lease = held;
      worker_is = refl;
      belongs = (
        worker,
        record {
          out = ap (λ (v : ℕ). lease_of v (leases past)) worker ∙ out;
          journal = subst (λ (j : Journaled). IsGrownBy d.outcome (lease_adds past held) j d.journal) journal (subst (λ (es : List JournalEntry). IsGrownBy d.outcome es l.journal d.journal) adds (grown-as d.outcome l d came.comes.1));
        },
      );
    }

pub finish-entered : (w : ℕ) (past now : List Event) (k : Key) (index worker : ℕ) (outcome : Outcome) → lease_of worker (leases past) ≡ Some (record { worker = worker; key = k; index = index }) → HasEnded past now worker outcome → HasEntered w past (Finish k index worker outcome) now
finish-entered w past now k index worker outcome out ended =
    let held : LeaseOut = record { worker = worker; key = k; index = index } in
    let both : Some ended.lease ≡ Some held = sym ended.out ∙ out in
    let same : ended.lease ≡ held = cc in
    record {
      allowed = out;
      grown = ended.grown ∙ ap (λ (h : LeaseOut). past ++ Finish h.key h.index worker outcome ∷ []) same;
    }

-- a test that fails says that there is no such lease or place
no-test : {P : Type 0} → (P → ⊥) → IsTrue false ↔ P
no-test other = (λ t. absurd (cc), λ p. absurd (other p))

-- the volumes that the last event of a history lists
pub listed-test : (past : List Event) (es : List written.Event) (e : written.Event) (b : Bool) (vs : List Share) → es ≡ map bare past → slice_get es (length es - 1) ≡ Some e → IsTrue b ↔ (listed_in e ≡ Some vs) → IsTrue b ↔ (listed_last (map bare past) ≡ Some vs)
listed-test past es e b vs same got test =
    let whole : listed_last (map bare past) ≡ listed_in e = ap listed_last (sym same) ∙ ap (λ (o : Option written.Event). option_map_or listed_in o None) got in
    subst (λ (o : Option (List Share)). IsTrue b ↔ (o ≡ Some vs)) (sym whole) test

-- the key of the job in a seat
keys-at : (x : Inside) (at : ℕ) → IsHall x → slice_get (keys_of x.entries.events) at ≡ option_map (λ (s : Seat). s.job.titled.key) (slice_get x.seats at)
keys-at x at hall =
    ap (λ (ks : List Key). slice_get ks at) (seated-keys x.entries.events x.seats hall.seated.jobs)
    ∙ slice_get-map (λ (s : Seat). s.job.titled.key) x.seats at

pub named-none : (x : Inside) (at : ℕ) (k : Key) → IsHall x → length x.seats ≤ at → IsTrue false ↔ (slice_get (keys_of x.entries.events) at ≡ Some k)
named-none x at k hall past = no-test (λ e. other e)
  where
    gone : slice_get (keys_of x.entries.events) at ≡ None
    gone = keys-at x at hall ∙ ap (option_map (λ (s : Seat). s.job.titled.key)) (behind x.seats at past)
      where
        behind : (xs : List Seat) (n : ℕ) → length xs ≤ n → slice_get xs n ≡ None
        behind [] n long = refl
        behind (x ∷ xs) zero long = absurd (omega (arith, long))
        behind (x ∷ xs) (suc n) long = behind xs n (omega (arith, long))

    other : slice_get (keys_of x.entries.events) at ≡ Some k → ⊥
    other e = let both : None ≡ Some k = sym gone ∙ e in absurd (cc)

pub named-some : (x : Inside) (at : ℕ) (k : Key) (s : Seat) (b : Bool) → IsHall x → at < length x.seats → s ≡ get_or x.seats at s → b ≡ is_key k s.job.titled.key → IsTrue b ↔ (slice_get (keys_of x.entries.events) at ≡ Some k)
named-some x at k s b hall low read test = (
  λ t. here ∙ ap Some (sym ((is_key-Decides k s.job.titled.key).0 (sym test ∙ t))),
  λ e. test ∙ (is_key-Decides k s.job.titled.key).1 (equal (sym e ∙ here)),
)
  where
    here : slice_get (keys_of x.entries.events) at ≡ Some s.job.titled.key
    here = keys-at x at hall ∙ ap (option_map (λ (t : Seat). t.job.titled.key)) (slice_get_read x.seats (length x.seats) at s refl low read)

    equal : Some k ≡ Some s.job.titled.key → k ≡ s.job.titled.key
    equal e = cc

-- whether a lease that is out is of a node
pub held-none : (past : List Event) (worker index : ℕ) (k : Key) → lease_of worker (leases past) ≡ None → IsTrue false ↔ (lease_of worker (leases past) ≡ Some (record { worker = worker; key = k; index = index }))
held-none past worker index k none = no-test (λ e. other e)
  where
    other : lease_of worker (leases past) ≡ Some (record { worker = worker; key = k; index = index }) → ⊥
    other e = let both : None ≡ Some (record { worker = worker; key = k; index = index }) = sym none ∙ e in absurd (cc)

pub held-other : (x : Inside) (worker index : ℕ) (k : Key) (spot : Spot) → IsHall x → IsAt x.entries.events (tags_of x.seats) worker spot → (spot.index ≡ index → ⊥) → IsTrue false ↔ (lease_of worker (leases x.entries.events) ≡ Some (record { worker = worker; key = k; index = index }))
held-other x worker index k spot hall is apart = no-test (λ e. other e)
  where
    other : lease_of worker (leases x.entries.events) ≡ Some (record { worker = worker; key = k; index = index }) → ⊥
    other e =
        let one : LeaseOut = record { worker = worker; key = is.tag.key; index = spot.index } in
        let two : LeaseOut = record { worker = worker; key = k; index = index } in
        let both : Some one ≡ Some two = sym is.out ∙ e in
        let same : one ≡ two = cc in
        apart (ap (λ (h : LeaseOut). h.index) same)

-- the key of the job at a spot
spot-key : (x : Inside) (worker : ℕ) (spot : Spot) (at : ℕ) → IsHall x → (is : IsAt x.entries.events (tags_of x.seats) worker spot) → place_numbered spot.job x.seats ≡ Some at → slice_get (keys_of x.entries.events) at ≡ Some is.tag.key
spot-key x worker spot at hall is placed =
    let sits = spot-sits x.seats spot at placed in
    keys-at x at hall ∙ (ap (option_map (λ (s : Seat). s.job.titled.key)) sits.1.is ∙ same sits.0 sits.1)
  where
    same : (s : Seat) → IsSeatAt x.seats spot at s → Some s.job.titled.key ≡ Some is.tag.key
    same s there =
        let one : LeaseOut = record { worker = worker; key = is.tag.key; index = spot.index } in
        let both : Some (held_at s worker spot.index) ≡ Some one = sym (spot-held x.entries.workers x.entries.events x.seats x.spots at s worker spot hall.seated hall.spots there is) ∙ is.out in
        let equal : held_at s worker spot.index ≡ one = cc in
        ap (λ (h : LeaseOut). Some h.key) equal

pub held-test : (x : Inside) (worker index : ℕ) (k : Key) (spot : Spot) (p : Option ℕ) (at : ℕ) (b : Bool) → IsHall x → IsAt x.entries.events (tags_of x.seats) worker spot → spot.index ≡ index → p ≡ place_numbered spot.job x.seats → p ≡ Some at → IsTrue b ↔ (slice_get (keys_of x.entries.events) at ≡ Some k) → IsTrue b ↔ (lease_of worker (leases x.entries.events) ≡ Some (record { worker = worker; key = k; index = index }))
held-test x worker index k spot p at b hall is same scan place test = (λ t. yes (test.0 t), λ e. test.1 (no e))
  where
    here : slice_get (keys_of x.entries.events) at ≡ Some is.tag.key
    here = spot-key x worker spot at hall is (sym scan ∙ place)

    yes : slice_get (keys_of x.entries.events) at ≡ Some k → lease_of worker (leases x.entries.events) ≡ Some (record { worker = worker; key = k; index = index })
    yes e =
        let both : Some is.tag.key ≡ Some k = sym here ∙ e in
        let key : is.tag.key ≡ k = cc in
        is.out ∙ (ap (λ (j : Key). let o : Option LeaseOut = Some (record { worker = worker; key = j; index = spot.index }) in o) key ∙ ap (λ (n : ℕ). let o : Option LeaseOut = Some (record { worker = worker; key = k; index = n }) in o) same)

    no : lease_of worker (leases x.entries.events) ≡ Some (record { worker = worker; key = k; index = index }) → slice_get (keys_of x.entries.events) at ≡ Some k
    no e =
        let one : LeaseOut = record { worker = worker; key = is.tag.key; index = spot.index } in
        let two : LeaseOut = record { worker = worker; key = k; index = index } in
        let both : Some one ≡ Some two = sym is.out ∙ e in
        let equal : one ≡ two = cc in
        here ∙ ap Some (ap (λ (h : LeaseOut). h.key) equal)

-- a job that is not there has the first revision next
pub next-none : (past : List Event) (k : Key) → job_of k (states past) ≡ None → 1 ≡ next_number k past
next-none past k none = sym (ap (λ (o : Option KeyedJob). option_map_or (λ (u : KeyedJob). length u.state.revisions + 1) o 1) none)

pub next-some : (past : List Event) (k : Key) (t : KeyedJob) → job_of k (states past) ≡ Some t → length t.state.revisions + 1 ≡ next_number k past
next-some past k t found = sym (ap (λ (o : Option KeyedJob). option_map_or (λ (u : KeyedJob). length u.state.revisions + 1) o 1) found)

-- a slot that is set
pub set-slot : (os : List (Option Leased)) (n : ℕ) (o : Option Leased) → map (option_map handed_of) (slice_set os n o) ≡ slice_set (map (option_map handed_of) os) n (option_map handed_of o)
set-slot os n o = map-set (option_map handed_of) os n o

pub get-slot : (os : List (Option Leased)) (n : ℕ) (o : Option Leased) → o ≡ get_or os n o → n < length os → option_map handed_of o ≡ get_or (map (option_map handed_of) os) n None
get-slot [] n o is low = absurd (omega (arith, low))
get-slot (x ∷ xs) zero o is low = ap (option_map handed_of) is
get-slot (x ∷ xs) (suc n) o is low = get-slot xs n o is (omega (arith, low))

pub slots-long : (os : List (Option Leased)) → length (map (option_map handed_of) os) ≡ length os
slots-long [] = refl
slots-long (x ∷ xs) = ap suc (slots-long xs)

-- a fault that is that one
pub fault-is : {A : Type 0} (f g : ApplyFault) → ◌≡◌ {A = Result A ApplyFault} (Err f) (Err g) → f ≡ g
fault-is f g e = cc

-- a lease that was handed out and is kept inside
pub enters-start : (x m y : HallView) (k : Key) (index worker at : ℕ) (lease : Leased) → Stands x → StartsAt x.workers x.events k index worker at → HasStarted x.workers x.events m.events index worker lease → m.workers ≡ x.workers → m.inside ≡ x.inside → y.workers ≡ m.workers → y.events ≡ m.events → y.inside ≡ slice_set m.inside (worker - 1) (Some (handed_of lease)) → Enters x (Start k index worker) y
enters-start x m y k index worker at lease is starts has workers inside later events set =
    let entered : HasEntered x.workers x.events (Start k index worker) y.events = subst (HasEntered x.workers x.events (Start k index worker)) (sym events) (start-entered x.workers x.events m.events k index worker at lease starts has) in
    let handed_is : handed_of lease ≡ handed y.events (record { worker = worker; key = k; index = index }) = subst (λ (h : List Event). handed_of lease ≡ handed h (record { worker = worker; key = k; index = index })) (sym events) (start-handed x.workers x.events m.events k index worker at lease starts has) in
    record {
      workers = later ∙ workers;
      entered = entered;
      inside = inside-start x y k index worker lease is (later ∙ workers) (set ∙ ap (λ (os : List (Option Handed)). slice_set os (worker - 1) (Some (handed_of lease))) inside) entered handed_is;
    }

-- a worker with a lease is one of the hall
pub held-worker : (x : HallView) (k : Key) (index worker : ℕ) → Stands x → lease_of worker (leases x.events) ≡ Some (record { worker = worker; key = k; index = index }) → IsWorker x.workers worker
held-worker x k index worker is out = (lease-worker x.workers x.events worker (record { worker = worker; key = k; index = index }) is.some is.bound is.legal out).1

pub held-slot : (x : HallView) (k : Key) (index worker : ℕ) → Stands x → lease_of worker (leases x.events) ≡ Some (record { worker = worker; key = k; index = index }) → worker ≤ length x.inside
held-slot x k index worker is out = omega (arith, (held-worker x k index worker is out).high, is.inside.count)

-- its lease is inside
pub never-none : (x : HallView) (k : Key) (index worker : ℕ) (o : Option Leased) → Stands x → lease_of worker (leases x.events) ≡ Some (record { worker = worker; key = k; index = index }) → option_map handed_of o ≡ get_or x.inside (worker - 1) None → o ≡ None → ⊥
never-none x k index worker o is out taken none =
    let mine = held-worker x k index worker is out in
    some-inside o _ (lease-inside x k index worker o is mine.low mine.high out taken) none

-- it is the one of its worker, as it was handed out
pub lodged-is : (x m : HallView) (k : Key) (index worker : ℕ) (o : Option Leased) (l : Leased) → Stands x → lease_of worker (leases x.events) ≡ Some (record { worker = worker; key = k; index = index }) → option_map handed_of o ≡ get_or x.inside (worker - 1) None → o ≡ Some l → m.events ≡ x.events → IsLodged m.events worker l
lodged-is x m k index worker o l is out taken found events =
    let mine = held-worker x k index worker is out in
    let held : LeaseOut = record { worker = worker; key = k; index = index } in
    let handed_is : handed_of l ≡ handed x.events held = handed-inside o l (handed x.events held) (lease-inside x k index worker o is mine.low mine.high out taken) found in
    subst (λ (h : List Event). IsLodged h worker l) (sym events) (record { held = held; worker_is = refl; out = out; handed_is = handed_is })

-- and what came of it may end it
pub lodged-may : (past : List Event) (worker : ℕ) (l : Leased) (outcome : Outcome) (back : Option Finished) → IsLodged past worker l → IsBackOf l outcome back → MayEnd past worker back
lodged-may past worker l outcome back lodged came = subst (λ (w : ℕ). MayEnd past w back) lodged.worker_is (finish-may past lodged.held l outcome back lodged.out lodged.handed_is came)

-- so may what is kept of its node, where it ran out of memory
pub unrun-may : (past : List Event) (worker : ℕ) (l : Leased) (kept : Kept) → IsLodged past worker l → journal_of kept ≡ l.journal → is_gone kept ≡ l.gone → MayEnd past worker (Some (unrun worker kept))
unrun-may past worker l kept lodged journal gone =
    let worker_is : worker ≡ l.worker = sym (ap (λ (h : Handed). h.worker) lodged.handed_is ∙ lodged.worker_is) in
    lodged-may past worker l Starved (Some (unrun worker kept)) lodged (record { outcome_is = refl; comes = (worker_is, (journal, λ g. sym gone ∙ g)) })

-- and nothing, where it is lost
pub lost-may : (past : List Event) (worker : ℕ) (l : Leased) → IsLodged past worker l → MayEnd past worker None
lost-may past worker l lodged = lodged-may past worker l Lost None lodged (record { outcome_is = refl; comes = tt })

-- what may end a start that ran out of memory
pub starve-may : (v : JobView) (index worker : ℕ) (kept : Kept) → MayFinish v index (Some (unrun worker kept)) → MayStarve v index (Some kept)
starve-may v index worker kept b = record { out = ap (λ (o : Option Lease). is_some o) b.out; own = b.journal }

pub enters-finish : (x m y : HallView) (k : Key) (index worker : ℕ) (outcome : Outcome) → Stands x → lease_of worker (leases x.events) ≡ Some (record { worker = worker; key = k; index = index }) → m.workers ≡ x.workers → m.events ≡ x.events → m.inside ≡ slice_set x.inside (worker - 1) None → y.workers ≡ m.workers → y.inside ≡ m.inside → HasEnded m.events y.events worker outcome → Enters x (Finish k index worker outcome) y
enters-finish x m y k index worker outcome is out workers events inside later same ended =
    let mine = held-worker x k index worker is out in
    let here : HasEnded x.events y.events worker outcome = subst (λ (h : List Event). HasEnded h y.events worker outcome) events ended in
    let entered : HasEntered x.workers x.events (Finish k index worker outcome) y.events = finish-entered x.workers x.events y.events k index worker outcome out here in
    record {
      workers = later ∙ workers;
      entered = entered;
      inside = inside-finish x y k index worker outcome is mine.low (later ∙ workers) (same ∙ inside) entered;
    }

-- no job is live
none-live : (ss : List Seat) → list_all (λ (s : Seat). not (is_live_seat s)) ss ≡ true → lives (jobs_in ss) ≡ []
none-live [] e = refl
none-live (s ∷ ss) e = by_test (is_live_seat s) e (none-live ss)
  where
    by_test : (b : Bool) → (not b && list_all (λ (t : Seat). not (is_live_seat t)) ss) ≡ true → (list_all (λ (t : Seat). not (is_live_seat t)) ss ≡ true → lives (jobs_in ss) ≡ []) → map live_of (cond b (s.job.titled ∷ live_ones (jobs_in ss)) (live_ones (jobs_in ss))) ≡ []
    by_test true f rest = absurd (cc)
    by_test false f rest = rest f

live-none : (ss : List Seat) → lives (jobs_in ss) ≡ [] → list_all (λ (s : Seat). not (is_live_seat s)) ss ≡ true
live-none [] e = refl
live-none (s ∷ ss) e = by_test (is_live_seat s) e (live-none ss)
  where
    by_test : (b : Bool) → map live_of (cond b (s.job.titled ∷ live_ones (jobs_in ss)) (live_ones (jobs_in ss))) ≡ [] → (lives (jobs_in ss) ≡ [] → list_all (λ (t : Seat). not (is_live_seat t)) ss ≡ true) → (not b && list_all (λ (t : Seat). not (is_live_seat t)) ss) ≡ true
    by_test true f rest = absurd (cc)
    by_test false f rest = rest f

pub answered-test : (x : Inside) (b : Bool) → IsHall x → b ≡ list_all (λ (s : Seat). not (is_live_seat s)) x.seats → IsTrue b ↔ (lives (states x.entries.events) ≡ [])
answered-test x b hall scan = (
  λ t. jobs ∙ none-live x.seats (sym scan ∙ t),
  λ e. scan ∙ live-none x.seats (sym jobs ∙ e),
)
  where
    jobs : lives (states x.entries.events) ≡ lives (jobs_in x.seats)
    jobs = ap lives hall.seated.jobs

-- no lease is out
pub home-test : (x : Inside) (sp : List (Option Spot)) (n : ℕ) → IsHall x → sp ≡ x.spots → n ≡ out_in sp → IsTrue (nat_eq n 0) ↔ (leases x.entries.events ≡ [])
home-test x sp n hall same scan = (λ t. none (leases x.entries.events) (sym is ∙ t), λ e. is ∙ ap (λ (ls : List LeaseOut). length ls == 0) e)
  where
    is : nat_eq n 0 ≡ (length (leases x.entries.events) == 0)
    is =
        ap (λ (m : ℕ). m == 0) (scan ∙ ap out_in same)
        ∙ spots-home x.entries.workers x.entries.events (tags_of x.seats) x.spots hall.seated.some_worker hall.bound hall.seated.legal hall.spots

    none : (ls : List LeaseOut) → (length ls == 0) ≡ true → ls ≡ []
    none [] e = refl
    none (l ∷ ls) e = let z : length (l ∷ ls) ≡ 0 = (Decides-eqb (length (l ∷ ls)) 0).0 e in absurd (omega (arith, z))
