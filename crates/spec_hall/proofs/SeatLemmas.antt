use Rattle.std.proofs.Common.{◌≡◌, ℕ, zero, suc, ◌≤◌, Bool, true, false, cond, List, [], ◌∷◌, ◌++◌, map, not, slice_get, slice_set, Option, Some, None, refl, sym, ◌∙◌, ap, subst, arith, append-nil}
use Rattle.std.specs.Prelude.{All}
use Rattle.std.specs.Option.{option_map}
use Rattle.std.proofs.lemmas.List.{map-append, map-set}
use Rattle.std.proofs.lemmas.List.Elements.{All-nil, All-cons, All-head, All-tail, All-push, filter-append}
use Rattle.std.proofs.lemmas.Option.{slice_get-map}
use Rattle.mal_base.specs.Asks.{Terms, Weighed}
use Rattle.mal_revision.specs.Posted.{Posted}
use Rattle.spec_balance.specs.Fair.{IsFair}
use Rattle.spec_job.specs.Keeps.{KeepsTerms}
use Rattle.mal_base.specs.declared.verdict.Outcome.{Outcome}
use Rattle.spec_job.specs.SoloMachine.{Own, Revised, Reasked, Closed, Started, Finished, solo_step}
use Rattle.spec_job.specs.KeyedJob.{Key, KeyedJob, stepped}
use Rattle.spec_job.specs.Viewed.{JobView, and_own, and_start}
use Rattle.spec_job.proofs.StepLemmas.{finish-keeps}
use Rattle.spec_hall.specs.Events.{Event, Open, Revise, Reask, Close, Start, Finish, Leave, Arrive}
use Rattle.spec_hall.specs.Own.{is_key}
use Rattle.spec_hall.specs.States.{Live, keys_of, states, titled, balanced}
use Rattle.spec_hall.specs.Legal.{Allowed, MayOpen, MayRevise, MayReask, MayClose, MayLeave, MayArrive}
use Rattle.spec_hall.specs.Seats.{Seat, HasNoneUnlisted, HaveVolumes, IsSeated, jobs_in, listed_seats, noted_of, listed_asks, listed_volumes, arrived_seat, opened_seat, seats_without}
use Rattle.spec_hall.proofs.PushLemmas.{balanced-push, Legal-push}
use Rattle.spec_hall.proofs.StatesLemmas.{job_of-absent}
use Rattle.spec_hall.proofs.OrderlyLemmas.{IsOrderly, legal-orderly, name-absent}
use Rattle.spec_hall.proofs.TouchLemmas.{Touches, revise-touches, reask-touches, close-touches, start-touches, finish-touches, states-touch, states-open, states-arrive, states-leave, jobs_without}
use Rattle.spec_hall.proofs.VolumeLemmas.{revise-keeps, solo-volume}

-- nothing is listed where there are no jobs
none-volumes : (w : ℕ) → HaveVolumes w []
none-volumes w = record {
  fair = record { same_length = refl; some = λ i h k. absurd (omega (arith, h)); wanted = λ i h k. absurd (omega (arith, h)); others = λ i h. refl; total = omega arith; even = λ i j h k l m n o. absurd (omega (arith, h)) };
  others = All-nil HasNoneUnlisted;
}

-- no jobs in a hall without events
pub seated-none : (w : ℕ) → 1 ≤ w → IsSeated w [] []
seated-none w some = record { some_worker = some; legal = tt; jobs = refl; last = λ ls q. sym (none-listed ls q); volumes = λ ls q. none-volumes w }
  where
    none-listed : (ls : List Live) → Some [] ≡ Some ls → [] ≡ ls
    none-listed ls q = cc

-- the keys of the jobs in their seats
abbrev pub seat_keys : List Seat → List Key
seat_keys ss = map (λ s. s.job.titled.key) ss

states-keys : (h : List Event) (ks : List Key) → map (λ (t : KeyedJob). t.key) (map (titled h) ks) ≡ ks
states-keys h [] = refl
states-keys h (k ∷ ks) = ap (λ (xs : List Key). k ∷ xs) (states-keys h ks)

jobs-keys : (ss : List Seat) → map (λ (t : KeyedJob). t.key) (jobs_in ss) ≡ seat_keys ss
jobs-keys [] = refl
jobs-keys (s ∷ ss) = ap (λ (xs : List Key). s.job.titled.key ∷ xs) (jobs-keys ss)

-- the keys of the history's jobs are those of the seats
pub seated-keys : (h : List Event) (ss : List Seat) → states h ≡ jobs_in ss → keys_of h ≡ seat_keys ss
seated-keys h ss jobs = sym (states-keys h (keys_of h)) ∙ (ap (map (λ (t : KeyedJob). t.key)) jobs ∙ jobs-keys ss)

-- the job in a seat is its machine, and its key stands at that place
pub record SitsAt (h : List Event) (n : ℕ) (t : KeyedJob) : Type 0 where
  pub place : slice_get (keys_of h) n ≡ Some t.key
  pub machine : titled h t.key ≡ t

pub sits-at : (h : List Event) (ss : List Seat) (n : ℕ) (s : Seat) → states h ≡ jobs_in ss → slice_get ss n ≡ Some s → SitsAt h n s.job.titled
sits-at h ss n s jobs at = by_key (slice_get (keys_of h) n) refl found
  where
    found : option_map (titled h) (slice_get (keys_of h) n) ≡ Some s.job.titled
    found = sym (slice_get-map (titled h) (keys_of h) n) ∙ (ap (λ (ts : List KeyedJob). slice_get ts n) jobs ∙ (slice_get-map (λ (x : Seat). x.job.titled) ss n ∙ ap (option_map (λ (x : Seat). x.job.titled)) at))

    by_key : (o : Option Key) → slice_get (keys_of h) n ≡ o → option_map (titled h) o ≡ Some s.job.titled → SitsAt h n s.job.titled
    by_key None e f = absurd (cc)
    by_key (Some k) e f =
        let same : titled h k ≡ s.job.titled = cc in
        let key : k ≡ s.job.titled.key = ap (λ (t : KeyedJob). t.key) same in
        record { place = e ∙ ap (λ (x : Key). Some x) key; machine = subst (λ (x : Key). titled h x ≡ s.job.titled) key same }

-- another job in a seat
abbrev pub reseated : Seat → JobView → Seat
reseated s v = record s { job = v }

-- what is read of the listed jobs stays where one of them keeps it
listed-set : {X : Type 0} (f : Seat → X) (ss : List Seat) (n : ℕ) (s : Seat) (v : JobView) → slice_get ss n ≡ Some s → f (reseated s v) ≡ f s → map f (listed_seats (slice_set ss n (reseated s v))) ≡ map f (listed_seats ss)
listed-set f [] n s v at same = refl
listed-set {X} f (x ∷ xs) zero s v at same = let here : x ≡ s = cc in by_test s.listed ∙ sym (ap (λ (y : Seat). map f (listed_seats (y ∷ xs))) here)
  where
    by_test : (b : Bool) → map f (cond b (reseated s v ∷ listed_seats xs) (listed_seats xs)) ≡ map f (cond b (s ∷ listed_seats xs) (listed_seats xs))
    by_test true = ap (λ (y : X). y ∷ map f (listed_seats xs)) same
    by_test false = refl
listed-set {X} f (x ∷ xs) (suc n) s v at same = by_test x.listed (listed-set f xs n s v at same)
  where
    by_test : (b : Bool) → map f (listed_seats (slice_set xs n (reseated s v))) ≡ map f (listed_seats xs) → map f (cond b (x ∷ listed_seats (slice_set xs n (reseated s v))) (listed_seats (slice_set xs n (reseated s v)))) ≡ map f (cond b (x ∷ listed_seats xs) (listed_seats xs))
    by_test true rest = ap (λ (ys : List X). f x ∷ ys) rest
    by_test false rest = rest

-- what each seat has, and the new one has too
pub set-all : (P : Seat → Type 0) (ss : List Seat) (n : ℕ) (s now : Seat) → slice_get ss n ≡ Some s → (P s → P now) → All P ss → All P (slice_set ss n now)
set-all P [] n s now at keeps h = h
set-all P (x ∷ xs) zero s now at keeps h =
    let here : x ≡ s = cc in
    All-cons P now xs (keeps (subst P here (All-head P x xs h))) (All-tail P x xs h)
set-all P (x ∷ xs) (suc n) s now at keeps h = All-cons P x (slice_set xs n now) (All-head P x xs h) (set-all P xs n s now at keeps (All-tail P x xs h))

volumes-set : (w : ℕ) (ss : List Seat) (n : ℕ) (s : Seat) (v : JobView) → slice_get ss n ≡ Some s → v.titled.state.volume ≡ s.job.titled.state.volume → HaveVolumes w ss → HaveVolumes w (slice_set ss n (reseated s v))
volumes-set w ss n s v at volume h =
    let asks : listed_asks (slice_set ss n (reseated s v)) ≡ listed_asks ss = listed-set (λ (x : Seat). x.noted) ss n s v at refl in
    let volumes : listed_volumes (slice_set ss n (reseated s v)) ≡ listed_volumes ss = listed-set (λ (x : Seat). x.job.titled.state.volume) ss n s v at volume in
    record {
      fair = subst (λ (asks : List Terms). IsFair w asks (listed_volumes (slice_set ss n (reseated s v)))) (sym asks) (subst (IsFair w (listed_asks ss)) (sym volumes) h.fair);
      others = set-all HasNoneUnlisted ss n s (reseated s v) at (λ none unlisted. volume ∙ none unlisted) h.others;
    }

-- an event of one job moves that job alone
pub seats-touch : (w : ℕ) (h : List Event) (ss : List Seat) (n : ℕ) (s : Seat) (e : Event) (o : Own) (v : JobView) → IsSeated w h ss → slice_get ss n ≡ Some s → Allowed w h e → Touches e s.job.titled.key o → v.titled ≡ stepped s.job.titled o → (solo_step s.job.titled.state o).volume ≡ s.job.titled.state.volume → IsSeated w (h ++ e ∷ []) (slice_set ss n (reseated s v))
seats-touch w h ss n s e o v seated at may touches step volume =
    let sits : SitsAt h n s.job.titled = sits-at h ss n s seated.jobs at in
    let orderly : IsOrderly h = legal-orderly w h seated.legal in
    let moved : states (h ++ e ∷ []) ≡ slice_set (states h) n (stepped (titled h s.job.titled.key) o) = states-touch h e s.job.titled.key o n touches orderly.apart sits.place in
    let key : v.titled.key ≡ s.job.titled.key = ap (λ (t : KeyedJob). t.key) step in
    record {
      some_worker = seated.some_worker;
      legal = Legal-push w h e seated.legal may;
      jobs = moved ∙ (ap (λ (ts : List KeyedJob). slice_set ts n (stepped (titled h s.job.titled.key) o)) seated.jobs ∙ (ap (λ (t : KeyedJob). slice_set (jobs_in ss) n (stepped t o)) sits.machine ∙ (ap (slice_set (jobs_in ss) n) (sym step) ∙ sym (map-set (λ (x : Seat). x.job.titled) ss n (reseated s v)))));
      last = λ ls q. seated.last ls (before ls q) ∙ sym (listed-set noted_of ss n s v at (ap (λ (k : Key). let l : Live = record { key = k; priority = s.noted.priority; demand = s.noted.demand } in l) key));
      volumes = λ ls q. volumes-set w ss n s v at (ap (λ (t : KeyedJob). t.state.volume) step ∙ volume) (seated.volumes ls (before ls q));
    }
  where
    before : (ls : List Live) → balanced (h ++ e ∷ []) ≡ Some ls → balanced h ≡ Some ls
    before ls q = sym (balanced-push h e ∙ touches.quiet h (balanced h)) ∙ q

-- a job gets a revision
pub seated-revise : (w : ℕ) (h : List Event) (ss : List Seat) (n : ℕ) (s : Seat) (number : ℕ) (r : Posted) → IsSeated w h ss → slice_get ss n ≡ Some s → MayRevise h s.job.titled.key number r s.job.titled → IsSeated w (h ++ Revise s.job.titled.key number r ∷ []) (slice_set ss n (reseated s (and_own s.job (Revised r))))
seated-revise w h ss n s number r seated at may =
    let keeps : KeepsTerms (record s.job.titled.state { revisions = s.job.titled.state.revisions ++ r ∷ [] }) (solo_step s.job.titled.state (Revised r)) = revise-keeps s.job.titled.state r in
    seats-touch w h ss n s (Revise s.job.titled.key number r) (Revised r) (and_own s.job (Revised r)) seated at (s.job.titled, may) (revise-touches s.job.titled.key number r) refl keeps.volume

-- the ask of a job changes
pub seated-reask : (w : ℕ) (h : List Event) (ss : List Seat) (n : ℕ) (s : Seat) (weight : Weighed) → IsSeated w h ss → slice_get ss n ≡ Some s → MayReask h s.job.titled.key weight s.job.titled → IsSeated w (h ++ Reask s.job.titled.key weight ∷ []) (slice_set ss n (reseated s (and_own s.job (Reasked weight))))
seated-reask w h ss n s weight seated at may =
    seats-touch w h ss n s (Reask s.job.titled.key weight) (Reasked weight) (and_own s.job (Reasked weight)) seated at (s.job.titled, may) (reask-touches s.job.titled.key weight) refl refl

-- a job is closed
pub seated-close : (w : ℕ) (h : List Event) (ss : List Seat) (n : ℕ) (s : Seat) → IsSeated w h ss → slice_get ss n ≡ Some s → MayClose h s.job.titled.key s.job.titled → IsSeated w (h ++ Close s.job.titled.key ∷ []) (slice_set ss n (reseated s (and_own s.job Closed)))
seated-close w h ss n s seated at may =
    seats-touch w h ss n s (Close s.job.titled.key) Closed (and_own s.job Closed) seated at (s.job.titled, may) (close-touches s.job.titled.key) refl refl

-- a node starts
pub seated-start : (w : ℕ) (h : List Event) (ss : List Seat) (n : ℕ) (s : Seat) (index worker start : ℕ) → IsSeated w h ss → slice_get ss n ≡ Some s → Allowed w h (Start s.job.titled.key index worker) → IsSeated w (h ++ Start s.job.titled.key index worker ∷ []) (slice_set ss n (reseated s (and_start s.job index start)))
seated-start w h ss n s index worker start seated at may =
    seats-touch w h ss n s (Start s.job.titled.key index worker) (Started index) (and_start s.job index start) seated at may (start-touches s.job.titled.key index worker) refl refl

-- a start ends
pub seated-finish : (w : ℕ) (h : List Event) (ss : List Seat) (n : ℕ) (s : Seat) (index worker : ℕ) (outcome : Outcome) → IsSeated w h ss → slice_get ss n ≡ Some s → Allowed w h (Finish s.job.titled.key index worker outcome) → IsSeated w (h ++ Finish s.job.titled.key index worker outcome ∷ []) (slice_set ss n (reseated s (and_own s.job (Finished index outcome))))
seated-finish w h ss n s index worker outcome seated at may =
    let keeps : KeepsTerms s.job.titled.state (solo_step s.job.titled.state (Finished index outcome)) = finish-keeps s.job.titled.state index outcome in
    seats-touch w h ss n s (Finish s.job.titled.key index worker outcome) (Finished index outcome) (and_own s.job (Finished index outcome)) seated at may (finish-touches s.job.titled.key index worker outcome) refl keeps.volume

-- a job that is not listed comes after the others
listed-push : (ss : List Seat) (s : Seat) → s.listed ≡ false → listed_seats (ss ++ s ∷ []) ≡ listed_seats ss
listed-push ss s unlisted = filter-append (λ (x : Seat). x.listed) ss (s ∷ []) ∙ (ap (λ (b : Bool). listed_seats ss ++ cond b (s ∷ []) []) unlisted ∙ append-nil (listed_seats ss))

volumes-push : (w : ℕ) (ss : List Seat) (s : Seat) → s.job.titled.state.volume ≡ 0 → s.listed ≡ false → HaveVolumes w ss → HaveVolumes w (ss ++ s ∷ [])
volumes-push w ss s none unlisted h = record {
  fair = subst (λ (xs : List Seat). IsFair w (map (λ (x : Seat). x.noted) xs) (map (λ (x : Seat). x.job.titled.state.volume) xs)) (sym (listed-push ss s unlisted)) h.fair;
  others = All-push HasNoneUnlisted ss s h.others (λ _. none);
}

-- a seat that is not listed and whose job has no volume comes after the others
pub record Comes (h : List Event) (e : Event) (seat : Seat) : Type 0 where
  pub states : states (h ++ e ∷ []) ≡ states h ++ seat.job.titled ∷ []
  pub unlisted : seat.listed ≡ false
  pub still : seat.job.titled.state.volume ≡ 0
  pub last : (ls : List Live) → balanced (h ++ e ∷ []) ≡ Some ls → balanced h ≡ Some ls

pub seated-comes : (w : ℕ) (h : List Event) (ss : List Seat) (e : Event) (seat : Seat) → IsSeated w h ss → Allowed w h e → Comes h e seat → IsSeated w (h ++ e ∷ []) (ss ++ seat ∷ [])
seated-comes w h ss e seat seated may comes = record {
  some_worker = seated.some_worker;
  legal = Legal-push w h e seated.legal may;
  jobs = comes.states ∙ (ap (λ (ts : List KeyedJob). ts ++ seat.job.titled ∷ []) seated.jobs ∙ sym (map-append (λ (s : Seat). s.job.titled) ss (seat ∷ [])));
  last = λ ls q. seated.last ls (comes.last ls q) ∙ sym (ap (map noted_of) (listed-push ss seat comes.unlisted));
  volumes = λ ls q. volumes-push w ss seat comes.still comes.unlisted (seated.volumes ls (comes.last ls q));
}

-- a job is opened
pub seated-open : (w : ℕ) (h : List Event) (ss : List Seat) (number : ℕ) (k : Key) (ask : Terms) → IsSeated w h ss → MayOpen h k ask → IsSeated w (h ++ Open k ask ∷ []) (ss ++ opened_seat number k ask ∷ [])
seated-open w h ss number k ask seated may =
    let orderly : IsOrderly h = legal-orderly w h seated.legal in
    seated-comes w h ss (Open k ask) (opened_seat number k ask) seated may (record {
      states = states-open h k ask (name-absent h k orderly may.fresh) (orderly.unknown k may.fresh);
      unlisted = refl;
      still = refl;
      last = λ ls q. sym (balanced-push h (Open k ask)) ∙ q;
    })

-- a job arrives
pub seated-arrive : (w : ℕ) (h : List Event) (ss : List Seat) (number : ℕ) (k : Key) (brought : List Own) → IsSeated w h ss → MayArrive h k brought → IsSeated w (h ++ Arrive k brought ∷ []) (ss ++ arrived_seat number k brought ∷ [])
seated-arrive w h ss number k brought seated may =
    seated-comes w h ss (Arrive k brought) (arrived_seat number k brought) seated may (record {
      states = states-arrive h k brought (job_of-absent h k may.absent);
      unlisted = refl;
      still = solo-volume brought ∙ may.still;
      last = λ ls q. absurd (none-some ls (sym (balanced-push h (Arrive k brought)) ∙ q));
    })
  where
    none-some : (ls : List Live) → None ≡ Some ls → ⊥
    none-some ls q = cc

-- the jobs in the seats without one
jobs-without : (k : Key) (ss : List Seat) → jobs_without k (jobs_in ss) ≡ jobs_in (seats_without k ss)
jobs-without k [] = refl
jobs-without k (x ∷ xs) = by_test (is_key k x.job.titled.key) (jobs-without k xs)
  where
    by_test : (b : Bool) → jobs_without k (jobs_in xs) ≡ jobs_in (seats_without k xs) → cond (not b) (x.job.titled ∷ jobs_without k (jobs_in xs)) (jobs_without k (jobs_in xs)) ≡ jobs_in (cond (not b) (x ∷ seats_without k xs) (seats_without k xs))
    by_test true rest = rest
    by_test false rest = ap (λ (ts : List KeyedJob). x.job.titled ∷ ts) rest

-- a job leaves
pub seated-leave : (w : ℕ) (h : List Event) (ss : List Seat) (k : Key) (t : KeyedJob) → IsSeated w h ss → MayLeave h k t → IsSeated w (h ++ Leave k ∷ []) (seats_without k ss)
seated-leave w h ss k t seated may = record {
  some_worker = seated.some_worker;
  legal = Legal-push w h (Leave k) seated.legal (t, may);
  jobs = states-leave h k ∙ (ap (jobs_without k) seated.jobs ∙ jobs-without k ss);
  last = λ ls q. absurd (none-some ls (sym (balanced-push h (Leave k)) ∙ q));
  volumes = λ ls q. absurd (none-some ls (sym (balanced-push h (Leave k)) ∙ q));
}
  where
    none-some : (ls : List Live) → None ≡ Some ls → ⊥
    none-some ls q = cc
