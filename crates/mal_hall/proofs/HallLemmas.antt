use Rattle.std.proofs.Common.{◌≡◌, ℕ, zero, ◌+◌, ◌-◌, ◌<◌, ◌≤◌, true, false, List, [], ◌∷◌, ◌++◌, length, get_or, slice_get, slice_set, suc, Bool, cond, Option, Some, None, is_some, is_none, refl, sym, ◌∙◌, ap, subst, arith, append-nil, length-append}
use Rattle.std.specs.Prelude.{replicate}
use Rattle.std.specs.Option.{option_map_or}
use Rattle.std.specs.List.{list_any}
use Rattle.std.proofs.lemmas.List.{map-append}
use Rattle.std.proofs.lemmas.List.Sums.{sum_by-cons}
use Rattle.std.proofs.lemmas.Option.{slice_get_read}
use Rattle.mal_base.specs.Limits.{limits}
use Rattle.mal_base.specs.Asks.{Terms, Weighed, IsAsk}
use Rattle.mal_base.specs.Names.{is_name}
use Rattle.mal_revision.specs.Posted.{Posted, is_posted}
use Rattle.spec_balance.specs.Fair.{IsFair}
use Rattle.spec_job.specs.Models.{AnswersSolve}
use Rattle.spec_job.specs.Proofs.{AnswersRefute}
use Rattle.spec_job.specs.Provenance.{ClausesAreOwn}
use Rattle.spec_job.specs.SoloMachine.{Own, SoloMachine, Revised, Reasked, Closed, Exchanged, solo}
use Rattle.spec_job.specs.KeyedJob.{Key, KeyedJob}
use Rattle.spec_job.specs.Viewed.{JobView, and_own}
use Rattle.spec_hall.specs.Events.{Event, Open, Revise, Reask, Close, Balance, Exchange}
use Rattle.spec_hall.specs.Calls.{AnswerTo, Call, HasCalled, IsCall}
use Rattle.spec_hall.specs.Leases.{start_number, starts_in}
use Rattle.spec_hall.specs.Own.{own, is_key}
use Rattle.spec_hall.specs.States.{Live, balanced, comings_in, job_number, keys_of, names_of, states, live_asks, titled, leases, with_key}
use Rattle.spec_hall.specs.Legal.{Allowed, MayOpen, MayRevise, MayReask, MayClose, job_of, jobs_of, tenant_count}
use Rattle.spec_hall.specs.Room.{HasRoomFor}
use Rattle.spec_hall.specs.Seats.{Seat, IsSeated, jobs_in, place_of, is_balancing_due, opened_seat, shares_by, balanced_from, balanced_by, is_live_seat}
use Rattle.spec_hall.specs.Spots.{Spot, Tag, AreSpots, tag_of, tags_of}
use Rattle.spec_hall.proofs.BalanceLemmas.{seated-balance}
use Rattle.spec_hall.proofs.TouchLemmas.{exchange-touches}
use Rattle.spec_hall.proofs.PlaceLemmas.{seated-found, seated-absent, placed-within}
use Rattle.spec_hall.proofs.PushLemmas.{balanced-push, leases-push, names-push}
use Rattle.spec_hall.proofs.RunnableLemmas.{find-titled, legal-answers_solve, legal-answers_refute, legal-clauses_own}
use Rattle.spec_hall.proofs.SeatLemmas.{reseated, seats-touch, seated-none, seated-open, seated-revise, seated-reask, seated-close}
use Rattle.spec_hall.proofs.OrderlyLemmas.{legal-orderly, name-absent}
use Rattle.spec_hall.proofs.ComingLemmas.{IsComing, NoneComes, comings_in-push, number-stays, open-comes}
use Rattle.spec_hall.proofs.JournalLemmas.{seats-other}
use Rattle.spec_hall.proofs.SpotLemmas.{AreOthers, numbered-push, set-count, starts-push, spots-stay, spots-open, spots-none}
use Rattle.spec_hall.proofs.VolumeLemmas.{revise-keeps}
use Rattle.mal_seats.specs.Changed.{OfSeat}
use Rattle.mal_seats.specs.Numbered.{IsAbove}
use Rattle.mal_hall.specs.Entered.{Entered}
use Rattle.mal_hall.specs.Named.{AreAlike, HasNoted, found, jobs_at}
use Rattle.mal_hall.specs.declared.names.Names.{Names}
use Rattle.mal_hall.specs.Replying.{AnswersRightly}
use Rattle.mal_hall.specs.Turned.{HasWaited}
use Rattle.mal_hall.proofs.Parts.{and_names, and_seats}
use Rattle.mal_hall.specs.HallView.{AreNoted, Inside, IsHall, out_in, owed_in, place_by, unclosed_in, next_number}
use Rattle.mal_hall.proofs.NumberLemmas.{named-alike, named-comes, named-stays, place-number, seats-above}
use Rattle.mal_hall.proofs.KeptLemmas.{first_of, tenants-with, unclosed-open, unclosed-same, unclosed-closed, unclosed-balanced}

count-none : (n : ℕ) → out_in (replicate n None) ≡ 0
count-none zero = refl
count-none (suc n) = omega (arith, sum_by-cons (λ (o : Option Spot). cond (is_some o) 1 0) None (replicate n None), count-none n)

-- nothing is noted of jobs before one comes
noted-none : (names : Names) → ((k : Key) → found names.numbers k ≡ None) → ((tenant : List ℕ) → jobs_at names.tenants tenant ≡ 0) → AreNoted [] names 0 0 false
noted-none names numbers tenants = record { named = record { number = numbers; jobs = tenants }; tenants_is = refl; comings_is = refl; moved_is = refl }

-- a hall without jobs
pub hall-none : (h : Entered) (w : ℕ) (ss : List Seat) (sp : List (Option Spot)) (names : Names) → h.workers ≡ w → 1 ≤ w → w ≤ 64 → h.events ≡ [] → ss ≡ [] → sp ≡ replicate w None → ((k : Key) → found names.numbers k ≡ None) → ((tenant : List ℕ) → jobs_at names.tenants tenant ≡ 0) → IsHall (record { entries = h; seats = ss; spots = sp; names = names; starts = 0; unclosed = 0; tenants = 0; comings = 0; moved = false })
hall-none h w ss sp names workers some bound events seats spots numbers tenants = rw (seats, spots) (record {
  bound = omega (arith, workers, bound);
  seated = rw events (seated-none h.workers (omega (arith, workers, some)));
  spots = rw (events, workers) (spots-none w);
  starts_is = rw events refl;
  unclosed_is = refl;
  noted = rw events (noted-none names numbers tenants);
  room = omega (arith, count-none w);
})

-- a hall in which nothing was entered, and in which names lead where they led
pub hall-refused : (x : Inside) (entries : Entered) (seats : List Seat) (names : Names) → IsHall x → HasWaited x.entries entries x.seats seats → AreAlike x.names names → IsHall (and_names x entries seats names)
hall-refused x entries seats names hall e alike = record {
  bound = omega (arith, e.workers, hall.bound);
  seated = rw (e.seats, e.workers, e.events) hall.seated;
  spots = rw (e.seats, e.workers, e.events) hall.spots;
  starts_is = hall.starts_is ∙ ap starts_in (sym e.events);
  unclosed_is = hall.unclosed_is ∙ ap unclosed_in (sym e.seats);
  noted = rw e.events (record { named = named-alike x.entries.events x.names names alike hall.noted.named; tenants_is = hall.noted.tenants_is; comings_is = hall.noted.comings_is; moved_is = hall.noted.moved_is });
  room = omega (arith, hall.room, e.room, ap (λ (ss : List Seat). length ss) e.seats);
}

-- a hall in which nothing was entered
pub hall-waited : (x : Inside) (entries : Entered) (seats : List Seat) → IsHall x → HasWaited x.entries entries x.seats seats → IsHall (and_seats x entries seats)
hall-waited x entries seats hall e = hall-refused x entries seats x.names hall e (record { leads = λ k. refl; jobs = λ tenant. refl })

-- a hall in which events were entered
pub record Grown (x y : Inside) (es : List Event) : Type 0 where
  pub hall : IsHall y
  pub events : y.entries.events ≡ x.entries.events ++ es

pub grown : (x y : Inside) (es : List Event) → IsHall x → y.entries.workers ≡ x.entries.workers → y.entries.events ≡ x.entries.events ++ es → IsSeated x.entries.workers (x.entries.events ++ es) y.seats → AreSpots x.entries.workers (x.entries.events ++ es) (tags_of y.seats) y.spots → y.starts ≡ starts_in (x.entries.events ++ es) → y.unclosed ≡ unclosed_in y.seats → AreNoted (x.entries.events ++ es) y.names y.tenants y.comings y.moved → owed_in y.unclosed y.seats y.spots ≤ y.entries.room → Grown x y es
grown x y es hall workers events seated spots starts unclosed noted room = record {
  hall = record {
    bound = omega (arith, workers, hall.bound);
    seated = rw (workers, events) seated;
    spots = rw (workers, events) spots;
    starts_is = starts ∙ ap starts_in (sym events);
    unclosed_is = unclosed;
    noted = rw events noted;
    room = room;
  };
  events = events;
}

-- by an event no job comes and none moves
pub record IsSettled (past : List Event) (e : Event) : Type 0 where
  pub none : NoneComes e
  pub names : names_of (past ++ e ∷ []) ≡ names_of past
  pub last : is_none (balanced (past ++ e ∷ [])) ≡ is_none (balanced past)

-- the same names, as many tenants and comings, and no job has moved since
pub record IsAsNoted (x y : Inside) : Type 0 where
  pub names : y.names ≡ x.names
  pub tenants : y.tenants ≡ x.tenants
  pub comings : y.comings ≡ x.comings
  pub moved : y.moved ≡ x.moved

-- what is noted where no job comes
pub noted-stays : (x : Inside) (e : Event) (moved : Bool) → IsHall x → NoneComes e → names_of (x.entries.events ++ e ∷ []) ≡ names_of x.entries.events → moved ≡ is_none (balanced (x.entries.events ++ e ∷ [])) → AreNoted (x.entries.events ++ e ∷ []) x.names x.tenants x.comings moved
noted-stays x e moved hall none names last = record {
  named = named-stays x.entries.events e x.names none names hall.noted.named;
  tenants_is = hall.noted.tenants_is ∙ ap tenant_count (sym names);
  comings_is = hall.noted.comings_is ∙ sym (comings_in-push x.entries.events e ∙ none.counts (comings_in x.entries.events));
  moved_is = last;
}

pub noted-settled : (x y : Inside) (e : Event) → IsHall x → IsSettled x.entries.events e → IsAsNoted x y → AreNoted (x.entries.events ++ e ∷ []) y.names y.tenants y.comings y.moved
noted-settled x y e hall settled same = rw (same.names, same.tenants, same.comings, same.moved) (noted-stays x e x.moved hall settled.none settled.names (hall.noted.moved_is ∙ sym settled.last))

-- an event that leaves the leases
stay : (x : Inside) (e : Event) (tags : List Tag) → IsHall x → NoneComes e → tags ≡ tags_of x.seats → leases (x.entries.events ++ e ∷ []) ≡ leases x.entries.events → ((worker : ℕ) → start_number worker (x.entries.events ++ e ∷ []) ≡ start_number worker x.entries.events) → AreSpots x.entries.workers (x.entries.events ++ e ∷ []) tags x.spots
stay x e tags hall none same out numbers =
    subst (λ (ts : List Tag). AreSpots x.entries.workers (x.entries.events ++ e ∷ []) ts x.spots) (sym same) (spots-stay x.entries.workers x.entries.events (x.entries.events ++ e ∷ []) (tags_of x.seats) x.spots out numbers (λ n t at. number-stays t.key x.entries.events e none) hall.spots)

-- the tags of seats of which one has another job with the same tag
set-tags : (ss : List Seat) (n : ℕ) (s : Seat) (v : JobView) → slice_get ss n ≡ Some s → tag_of (reseated s v) ≡ tag_of s → tags_of (slice_set ss n (reseated s v)) ≡ tags_of ss
set-tags [] n s v at same = refl
set-tags (x ∷ xs) zero s v at same = let here : x ≡ s = cc in ap (λ (t : Tag). t ∷ tags_of xs) (same ∙ ap tag_of (sym here))
set-tags (x ∷ xs) (suc n) s v at same = ap (λ (ts : List Tag). tag_of x ∷ ts) (set-tags xs n s v at same)

balanced-tags : (n : ℕ) (vs : List ℕ) (ss : List Seat) → tags_of (balanced_from n vs ss) ≡ tags_of ss
balanced-tags n vs [] = refl
balanced-tags n vs (x ∷ xs) = ap (λ (ts : List Tag). tag_of x ∷ ts) (balanced-tags (cond (is_live_seat x) (n + 1) n) vs xs)

balanced-long : (n : ℕ) (vs : List ℕ) (ss : List Seat) → length (balanced_from n vs ss) ≡ length ss
balanced-long n vs [] = refl
balanced-long n vs (x ∷ xs) = ap suc (balanced-long (cond (is_live_seat x) (n + 1) n) vs xs)

-- the seats of a hall with a further job
abbrev pub with_job : Inside → ℕ → Key → Terms → List Seat
with_job x number k ask = x.seats ++ opened_seat number k ask ∷ []

-- the number of a key that is known leads to its job's place
pub hall-place : (x : Inside) (k : Key) (o : Option ℕ) → IsHall x → o ≡ place_by (found x.names.numbers k) x.seats → o ≡ place_of k x.seats
hall-place x k o hall scan =
    scan
    ∙ (ap (λ (r : Option ℕ). place_by r x.seats) (hall.noted.named.number k)
    ∙ place-number x.entries.workers x.entries.events x.seats x.spots k hall.seated hall.spots)

-- a name has a number
pub hall-named : (x : Inside) (k : Key) (r : Option ℕ) (b : Bool) → IsHall x → r ≡ found x.names.numbers k → b ≡ is_some r → list_any (is_key k) (names_of x.entries.events) ≡ b
hall-named x k r b hall scan test =
    by_test (list_any (is_key k) (names_of x.entries.events))
    ∙ (ap (λ (o : Option ℕ). is_some o) (sym (hall.noted.named.number k)) ∙ (ap (λ (o : Option ℕ). is_some o) (sym scan) ∙ sym test))
  where
    by_test : (c : Bool) → c ≡ is_some (cond c (Some (job_number k x.entries.events)) None)
    by_test true = refl
    by_test false = refl

-- the names of a tenant that were counted
pub hall-jobs : (x : Inside) (tenant : List ℕ) (count : ℕ) → IsHall x → count ≡ jobs_at x.names.tenants tenant → count ≡ jobs_of tenant (names_of x.entries.events)
hall-jobs x tenant count hall scan = scan ∙ hall.noted.named.jobs tenant

-- the next number is above all others
pub hall-above : (x : Inside) → IsHall x → IsAbove x.comings x.seats
hall-above x hall = seats-above x.entries.workers x.entries.events x.seats x.spots x.comings hall.seated hall.spots hall.noted.comings_is

-- a job is opened
pub may-open : (x : Inside) (k : Key) (ask : Terms) (jobs : ℕ) → IsHall x → is_name k.tenant ≡ true → is_name k.job ≡ true → IsAsk ask → list_any (is_key k) (names_of x.entries.events) ≡ false → jobs ≡ jobs_of k.tenant (names_of x.entries.events) → jobs < limits.jobs_of_tenant → (jobs ≡ 0 → x.tenants < limits.tenants) → MayOpen x.entries.events k ask
may-open x k ask jobs hall tenant job asked fresh count few others = record {
  tenant = tenant;
  job = job;
  asked = asked;
  fresh = fresh;
  tenant_room = omega (arith, count, few);
  hall_room = λ none. rw (← hall.noted.tenants_is) (others (count ∙ none));
}

-- a job comes, and its name is noted
pub noted-comes : (x y : Inside) (e : Event) (k : Key) (jobs : ℕ) → IsHall x → IsComing k e → names_of (x.entries.events ++ e ∷ []) ≡ with_key k (names_of x.entries.events) → jobs ≡ jobs_of k.tenant (names_of x.entries.events) → HasNoted x.comings k x.names y.names → y.tenants ≡ x.tenants + first_of jobs → y.comings ≡ x.comings + 1 → y.moved ≡ is_none (balanced (x.entries.events ++ e ∷ [])) → AreNoted (x.entries.events ++ e ∷ []) y.names y.tenants y.comings y.moved
noted-comes x y e k jobs hall comes names count noted tenants comings moved = record {
  named = named-comes past e k x.comings x.names y.names comes names hall.noted.comings_is noted hall.noted.named;
  tenants_is =
      tenants
      ∙ (ap (λ (n : ℕ). n + first_of jobs) hall.noted.tenants_is
      ∙ (ap (λ (n : ℕ). tenant_count (names_of past) + first_of n) count ∙ (sym (tenants-with (names_of past) k) ∙ sym (ap tenant_count names))));
  comings_is = comings ∙ (ap (λ (n : ℕ). n + 1) hall.noted.comings_is ∙ sym (comings_in-push past e ∙ comes.counts (comings_in past)));
  moved_is = moved;
}
  where
    past : List Event
    past = x.entries.events

pub hall-open : (x y : Inside) (k : Key) (ask : Terms) (jobs : ℕ) → IsHall x → y.entries.workers ≡ x.entries.workers → y.entries.events ≡ x.entries.events ++ Open k ask ∷ [] → y.seats ≡ with_job x x.comings k ask → y.spots ≡ x.spots → y.starts ≡ x.starts → HasNoted x.comings k x.names y.names → MayOpen x.entries.events k ask → jobs ≡ jobs_of k.tenant (names_of x.entries.events) → y.unclosed ≡ x.unclosed + 1 → y.tenants ≡ x.tenants + first_of jobs → y.comings ≡ x.comings + 1 → y.moved ≡ x.moved → owed_in x.unclosed x.seats x.spots + 2 ≤ y.entries.room → Grown x y (Open k ask ∷ [])
hall-open x y k ask jobs hall workers events seats spots starts names may count unclosed tenants comings moved room =
    let past : List Event = x.entries.events in
    let e : Event = Open k ask in
    let seat : Seat = opened_seat x.comings k ask in
    let tags : tags_of y.seats ≡ tags_of x.seats ++ tag_of seat ∷ [] = ap tags_of seats ∙ map-append tag_of x.seats (seat ∷ []) in
    let absent = name-absent past k (legal-orderly x.entries.workers past hall.seated.legal) may.fresh in
    let others : AreOthers k (tags_of x.seats) = seats-other past x.seats k hall.seated.jobs absent in
    let kept = spots-open x.entries.workers past (tags_of x.seats) x.spots (tag_of seat) ask hall.noted.comings_is refl others hall.spots in
    let noted = noted-comes x y e k jobs hall (open-comes k ask) (names-push past e) count names tenants comings (moved ∙ (hall.noted.moved_is ∙ sym (ap (λ (o : Option (List Live)). is_none o) (balanced-push past e)))) in
    let long : length y.seats ≡ length x.seats + 1 = ap (λ (ss : List Seat). length ss) seats ∙ length-append x.seats (seat ∷ []) in
    grown x y (e ∷ []) hall workers events (rw seats (seated-open x.entries.workers past x.seats x.comings k ask hall.seated may)) (rw (tags, spots) kept) (starts ∙ (hall.starts_is ∙ sym (starts-push past e))) (unclosed ∙ (ap (λ (n : ℕ). n + 1) hall.unclosed_is ∙ (sym (unclosed-open x.seats x.comings k ask) ∙ ap unclosed_in (sym seats)))) noted (omega (arith, room, ap out_in spots, unclosed, long))

-- an event of one job that starts none and closes none
own-grown : (x y : Inside) (at : ℕ) (s : Seat) (e : Event) (o : Own) → IsHall x → IsSettled x.entries.events e → slice_get x.seats at ≡ Some s → y.entries.workers ≡ x.entries.workers → y.entries.events ≡ x.entries.events ++ e ∷ [] → y.seats ≡ slice_set x.seats at (reseated s (and_own s.job o)) → y.spots ≡ x.spots → y.starts ≡ x.starts → IsAsNoted x y → IsSeated x.entries.workers (x.entries.events ++ e ∷ []) (slice_set x.seats at (reseated s (and_own s.job o))) → leases (x.entries.events ++ e ∷ []) ≡ leases x.entries.events → ((worker : ℕ) → start_number worker (x.entries.events ++ e ∷ []) ≡ start_number worker x.entries.events) → starts_in (x.entries.events ++ e ∷ []) ≡ starts_in x.entries.events → y.unclosed ≡ unclosed_in (slice_set x.seats at (reseated s (and_own s.job o))) → owed_in y.unclosed x.seats x.spots ≤ y.entries.room → Grown x y (e ∷ [])
own-grown x y at s e o hall settled sits workers events seats spots starts same seated out numbers count unclosed room =
    let now : Seat = reseated s (and_own s.job o) in
    let kept = stay x e (tags_of (slice_set x.seats at now)) hall settled.none (set-tags x.seats at s (and_own s.job o) sits refl) out numbers in
    let long : length y.seats ≡ length x.seats = ap (λ (ss : List Seat). length ss) seats ∙ set-count x.seats at now in
    grown x y (e ∷ []) hall workers events (rw seats seated) (rw (seats, spots) kept) (starts ∙ (hall.starts_is ∙ sym count)) (unclosed ∙ ap unclosed_in (sym seats)) (noted-settled x y e hall settled same) (omega (arith, room, ap out_in spots, long))

-- the seat at the place of a key
pub record Sits (ss : List Seat) (k : Key) (at : ℕ) (s : Seat) : Type 0 where
  pub place : place_of k ss ≡ Some at
  pub seat : slice_get ss at ≡ Some s

-- the place that was found
pub placed : (ss : List Seat) (k : Key) (r o : Option ℕ) → r ≡ place_of k ss → r ≡ o → place_of k ss ≡ o
placed ss k r o scan is = sym scan ∙ is

pub placed-below : (ss : List Seat) (k : Key) (r : Option ℕ) (at : ℕ) → r ≡ place_of k ss → r ≡ Some at → at < length ss
placed-below ss k r at scan is = placed-within k ss at (placed ss k r (Some at) scan is)

-- a seat that is read at that place
pub sits : (ss : List Seat) (k : Key) (r : Option ℕ) (at : ℕ) (s : Seat) → r ≡ place_of k ss → r ≡ Some at → s ≡ get_or ss at s → Sits ss k at s
sits ss k r at s scan is read = record {
  place = placed ss k r (Some at) scan is;
  seat = slice_get_read ss (length ss) at s refl (placed-below ss k r at scan is) read;
}

-- what holds of a seat that is read at a place
pub of-seat : (P : Seat → Type 0) (ss : List Seat) (at : ℕ) (s : Seat) → slice_get ss at ≡ Some s → P s → OfSeat ss at P
of-seat P ss at s there holds t other =
    let both : Some s ≡ Some t = sym there ∙ other in
    let same : s ≡ t = cc in
    subst P same holds

-- a job that is found
pub record Found (x : Inside) (k : Key) (t : KeyedJob) : Type 0 where
  pub key : t.key ≡ k
  pub job : job_of k (states x.entries.events) ≡ Some t

pub hall-found : (x : Inside) (k : Key) (at : ℕ) (s : Seat) → IsHall x → Sits x.seats k at s → Found x k s.job.titled
hall-found x k at s hall sits =
    let both = seated-found x.entries.workers x.entries.events x.seats k at s hall.seated sits.place sits.seat in
    record { key = both.0; job = both.1 }

-- what holds of a job that is found holds of its machine run alone on the job's own events, in whatever history has
-- these
pub found-alone : (past : List Event) (k : Key) (t : KeyedJob) (P : SoloMachine → Type 0) → job_of k (states past) ≡ Some t → P t.state → (other : List Event) → own k other ≡ own k past → P (solo (own k other))
found-alone past k t P found holds other same =
    let is : titled past k ≡ t = find-titled past k (keys_of past) t found in
    subst P (sym (ap (λ (u : KeyedJob). u.state) is) ∙ ap solo (sym same)) holds

pub hall-absent : (x : Inside) (k : Key) → IsHall x → place_of k x.seats ≡ None → job_of k (states x.entries.events) ≡ None
hall-absent x k hall place = seated-absent x.entries.workers x.entries.events x.seats k hall.seated place

-- the number of a job's next revision
pub hall-next : (x : Inside) (k : Key) (t : KeyedJob) (number : ℕ) → Found x k t → number ≡ length t.state.revisions + 1 → number ≡ next_number k x.entries.events
hall-next x k t number found next = next ∙ ap (λ (o : Option KeyedJob). option_map_or (λ (u : KeyedJob). length u.state.revisions + 1) o 1) (sym found.job)

-- a revision may be posted
pub may-revise : (x : Inside) (k : Key) (at : ℕ) (s : Seat) (r : Posted) → IsHall x → Sits x.seats k at s → s.job.titled.state.closed ≡ false → length s.job.titled.state.revisions < limits.revisions → HasRoomFor s.job.titled.state.revisions r → is_posted r ≡ true → MayRevise x.entries.events k (length s.job.titled.state.revisions + 1) r s.job.titled
may-revise x k at s r hall sits still few fits posted = record {
  job = (hall-found x k at s hall sits).job;
  open_still = still;
  posted = posted;
  next = refl;
  room = omega (arith, few);
  clause_room = fits.clauses;
  literal_room = fits.literals;
}

-- a revision is posted
pub hall-revise : (x y : Inside) (k : Key) (at : ℕ) (s : Seat) (number : ℕ) (r : Posted) → IsHall x → Sits x.seats k at s → y.entries.workers ≡ x.entries.workers → y.entries.events ≡ x.entries.events ++ Revise s.job.titled.key number r ∷ [] → y.seats ≡ slice_set x.seats at (reseated s (and_own s.job (Revised r))) → y.spots ≡ x.spots → y.starts ≡ x.starts → y.unclosed ≡ x.unclosed → IsAsNoted x y → number ≡ length s.job.titled.state.revisions + 1 → MayRevise x.entries.events k (length s.job.titled.state.revisions + 1) r s.job.titled → owed_in y.unclosed x.seats x.spots ≤ y.entries.room → Grown x y (Revise k number r ∷ [])
hall-revise x y k at s number r hall sits workers events seats spots starts unclosed noted next may room =
    let past : List Event = x.entries.events in
    let found = hall-found x k at s hall sits in
    let entered = subst (λ (j : Key). y.entries.events ≡ x.entries.events ++ Revise j number r ∷ []) found.key events in
    let now : Seat = reseated s (and_own s.job (Revised r)) in
    let mine : MayRevise past s.job.titled.key number r s.job.titled = rw next (subst (λ (j : Key). MayRevise past j (length s.job.titled.state.revisions + 1) r s.job.titled) (sym found.key) may) in
    let seated = subst (λ (j : Key). IsSeated x.entries.workers (past ++ Revise j number r ∷ []) (slice_set x.seats at now)) found.key (seated-revise x.entries.workers past x.seats at s number r hall.seated sits.seat mine) in
    own-grown x y at s (Revise k number r) (Revised r) hall (record { none = record { steps = λ j n. refl; counts = λ n. refl }; names = names-push past (Revise k number r); last = ap (λ (o : Option (List Live)). is_none o) (balanced-push past (Revise k number r)) }) sits.seat workers entered seats spots starts noted seated (leases-push past (Revise k number r)) (λ v. ap (λ n. n.last) (numbered-push v past (Revise k number r))) (starts-push past (Revise k number r)) (unclosed ∙ (hall.unclosed_is ∙ unclosed-same x.seats at s now sits.seat (revise-keeps s.job.titled.state r).closed)) room

-- a job asks anew
pub hall-reask : (x y : Inside) (k : Key) (at : ℕ) (s : Seat) (weight : Weighed) → IsHall x → Sits x.seats k at s → y.entries.workers ≡ x.entries.workers → y.entries.events ≡ x.entries.events ++ Reask s.job.titled.key weight ∷ [] → y.seats ≡ slice_set x.seats at (reseated s (and_own s.job (Reasked weight))) → y.spots ≡ x.spots → y.starts ≡ x.starts → y.unclosed ≡ x.unclosed → IsAsNoted x y → MayReask x.entries.events k weight s.job.titled → owed_in y.unclosed x.seats x.spots ≤ y.entries.room → Grown x y (Reask k weight ∷ [])
hall-reask x y k at s weight hall sits workers events seats spots starts unclosed noted may room =
    let past : List Event = x.entries.events in
    let found = hall-found x k at s hall sits in
    let entered = subst (λ (j : Key). y.entries.events ≡ x.entries.events ++ Reask j weight ∷ []) found.key events in
    let now : Seat = reseated s (and_own s.job (Reasked weight)) in
    let mine : MayReask past s.job.titled.key weight s.job.titled = subst (λ (j : Key). MayReask past j weight s.job.titled) (sym found.key) may in
    let seated = subst (λ (j : Key). IsSeated x.entries.workers (past ++ Reask j weight ∷ []) (slice_set x.seats at now)) found.key (seated-reask x.entries.workers past x.seats at s weight hall.seated sits.seat mine) in
    own-grown x y at s (Reask k weight) (Reasked weight) hall (record { none = record { steps = λ j n. refl; counts = λ n. refl }; names = names-push past (Reask k weight); last = ap (λ (o : Option (List Live)). is_none o) (balanced-push past (Reask k weight)) }) sits.seat workers entered seats spots starts noted seated (leases-push past (Reask k weight)) (λ v. ap (λ n. n.last) (numbered-push v past (Reask k weight))) (starts-push past (Reask k weight)) (unclosed ∙ (hall.unclosed_is ∙ unclosed-same x.seats at s now sits.seat refl)) room

-- where a job is open some are not closed
pub hall-some : (x : Inside) (k : Key) (at : ℕ) (s : Seat) → IsHall x → Sits x.seats k at s → s.job.titled.state.closed ≡ false → 1 ≤ x.unclosed
hall-some x k at s hall sits still = omega (arith, hall.unclosed_is, unclosed-closed x.seats at s (reseated s (and_own s.job Closed)) sits.seat still refl)

-- a job is closed
pub hall-close : (x y : Inside) (k : Key) (at : ℕ) (s : Seat) → IsHall x → Sits x.seats k at s → y.entries.workers ≡ x.entries.workers → y.entries.events ≡ x.entries.events ++ Close k ∷ [] → y.seats ≡ slice_set x.seats at (reseated s (and_own s.job Closed)) → y.spots ≡ x.spots → y.starts ≡ x.starts → y.unclosed ≡ x.unclosed - 1 → IsAsNoted x y → s.job.titled.state.closed ≡ false → y.entries.room + 1 ≡ x.entries.room → Grown x y (Close k ∷ [])
hall-close x y k at s hall sits workers events seats spots starts unclosed noted still room =
    let past : List Event = x.entries.events in
    let found = hall-found x k at s hall sits in
    let now : Seat = reseated s (and_own s.job Closed) in
    let may : MayClose past s.job.titled.key s.job.titled = record { job = subst (λ (j : Key). job_of j (states past) ≡ Some s.job.titled) (sym found.key) found.job; open_still = still } in
    let seated = subst (λ (j : Key). IsSeated x.entries.workers (past ++ Close j ∷ []) (slice_set x.seats at now)) found.key (seated-close x.entries.workers past x.seats at s hall.seated sits.seat may) in
    own-grown x y at s (Close k) Closed hall (record { none = record { steps = λ j n. refl; counts = λ n. refl }; names = names-push past (Close k); last = ap (λ (o : Option (List Live)). is_none o) (balanced-push past (Close k)) }) sits.seat workers events seats spots starts noted seated (leases-push past (Close k)) (λ v. ap (λ n. n.last) (numbered-push v past (Close k))) (starts-push past (Close k)) (omega (arith, unclosed, hall.unclosed_is, unclosed-closed x.seats at s now sits.seat still refl)) (omega (arith, unclosed, hall.room, room, hall-some x k at s hall sits still))

-- a balancing that is due is entered
pub hall-balance : (x y : Inside) (vs : List ℕ) → IsHall x → is_balancing_due x.entries.events x.seats ≡ true → IsFair x.entries.workers (live_asks (jobs_in x.seats)) vs → y.entries.workers ≡ x.entries.workers → y.entries.events ≡ x.entries.events ++ Balance (shares_by vs x.seats) ∷ [] → y.seats ≡ balanced_by vs x.seats → y.spots ≡ x.spots → y.starts ≡ x.starts → y.unclosed ≡ x.unclosed → y.names ≡ x.names → y.tenants ≡ x.tenants → y.comings ≡ x.comings → y.moved ≡ false → owed_in x.unclosed x.seats x.spots ≤ y.entries.room → Grown x y (Balance (shares_by vs x.seats) ∷ [])
hall-balance x y vs hall due fair workers events seats spots starts unclosed names tenants comings moved room =
    let past : List Event = x.entries.events in
    let e : Event = Balance (shares_by vs x.seats) in
    let none : NoneComes e = record { steps = λ j n. refl; counts = λ n. refl } in
    let kept = stay x e (tags_of (balanced_by vs x.seats)) hall none (balanced-tags 0 vs x.seats) (leases-push past e) (λ v. ap (λ n. n.last) (numbered-push v past e)) in
    let noted : AreNoted (past ++ e ∷ []) y.names y.tenants y.comings y.moved = rw (names, tenants, comings, moved) (noted-stays x e false hall none (names-push past e) (sym (ap (λ (o : Option (List Live)). is_none o) (balanced-push past e)))) in
    let long : length y.seats ≡ length x.seats = ap (λ (ss : List Seat). length ss) seats ∙ balanced-long 0 vs x.seats in
    grown x y (e ∷ []) hall workers events (rw seats (seated-balance x.entries.workers past x.seats vs hall.seated fair due)) (rw (seats, spots) kept) (starts ∙ (hall.starts_is ∙ sym (starts-push past e))) (unclosed ∙ (hall.unclosed_is ∙ (unclosed-balanced 0 vs x.seats ∙ ap unclosed_in (sym seats)))) noted (omega (arith, room, unclosed, ap out_in spots, long))

-- an exchange that is allowed is entered
pub hall-exchange : (x y : Inside) (at : ℕ) (s : Seat) → IsHall x → Allowed x.entries.workers x.entries.events (Exchange s.job.titled.key) → slice_get x.seats at ≡ Some s → y.entries.workers ≡ x.entries.workers → y.entries.events ≡ x.entries.events ++ Exchange s.job.titled.key ∷ [] → y.seats ≡ slice_set x.seats at (reseated s (and_own s.job Exchanged)) → y.spots ≡ x.spots → y.starts ≡ x.starts → y.unclosed ≡ x.unclosed → IsAsNoted x y → owed_in x.unclosed x.seats x.spots ≤ y.entries.room → Grown x y (Exchange s.job.titled.key ∷ [])
hall-exchange x y at s hall may sits workers events seats spots starts unclosed noted room =
    let past : List Event = x.entries.events in
    let now : Seat = reseated s (and_own s.job Exchanged) in
    let e : Event = Exchange s.job.titled.key in
    let seated = seats-touch x.entries.workers past x.seats at s e Exchanged (and_own s.job Exchanged) hall.seated sits may (exchange-touches s.job.titled.key) refl refl in
    own-grown x y at s e Exchanged hall (record { none = record { steps = λ j n. refl; counts = λ n. refl }; names = names-push past e; last = ap (λ (o : Option (List Live)). is_none o) (balanced-push past e) }) sits workers events seats spots starts noted seated (leases-push past e) (λ v. ap (λ n. n.last) (numbered-push v past e)) (starts-push past e) (unclosed ∙ (hall.unclosed_is ∙ unclosed-same x.seats at s now sits refl)) (omega (arith, room, unclosed))

-- the answers of a job of a hall carry models
hall-solves : (x : Inside) → IsHall x → (k : Key) (t : KeyedJob) → job_of k (states x.entries.events) ≡ Some t → AnswersSolve t.state
hall-solves x hall k t found =
    let past : List Event = x.entries.events in
    let same : titled past k ≡ t = find-titled past k (keys_of past) t found in
    subst (λ (u : KeyedJob). AnswersSolve u.state) same (legal-answers_solve x.entries.workers past hall.seated.legal k)

-- and proofs
hall-refutes : (x : Inside) → IsHall x → (k : Key) (t : KeyedJob) → job_of k (states x.entries.events) ≡ Some t → AnswersRefute t.state
hall-refutes x hall k t found =
    let past : List Event = x.entries.events in
    let same : titled past k ≡ t = find-titled past k (keys_of past) t found in
    subst (λ (u : KeyedJob). AnswersRefute u.state) same (legal-answers_refute x.entries.workers past hall.seated.legal k)

-- and its clauses are its own
hall-owns : (x : Inside) → IsHall x → (k : Key) (t : KeyedJob) → job_of k (states x.entries.events) ≡ Some t → ClausesAreOwn t.state
hall-owns x hall k t found =
    let past : List Event = x.entries.events in
    let same : titled past k ≡ t = find-titled past k (keys_of past) t found in
    subst (λ (u : KeyedJob). ClausesAreOwn u.state) same (legal-clauses_own x.entries.workers past hall.seated.legal k)

pub hall-right : (x : Inside) → IsHall x → (k : Key) → AnswersRightly k x.entries.events
hall-right x hall k = record { models = hall-solves x hall k; proofs = hall-refutes x hall k; own_clauses = hall-owns x hall k }

-- a call that enters nothing
pub called-none : (w : ℕ) (past : List Event) (c : Call) (answer : AnswerTo c) → IsCall w past c answer [] → HasCalled w past c answer past
called-none w past c answer is = record { events = []; grown = sym (append-nil past); call = is }

-- a call that enters one event
pub called-one : (w : ℕ) (past now : List Event) (c : Call) (answer : AnswerTo c) (e : Event) → now ≡ past ++ e ∷ [] → IsCall w past c answer (e ∷ []) → HasCalled w past c answer now
called-one w past now c answer e grown is = record { events = e ∷ []; grown = grown; call = is }
