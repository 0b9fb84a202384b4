-- A hall that a job leaves, and one at which a job arrives.
use Rattle.std.proofs.Common.{◌≡◌, ℕ, zero, suc, ◌+◌, ◌-◌, ◌<◌, ◌≤◌, Bool, true, false, not, ◌==◌, cond, if◌then◌else◌, List, [], ◌∷◌, ◌++◌, length, slice_get, Option, Some, None, option_map, is_some, is_none, Ok, Err, refl, sym, ◌∙◌, ap, subst, arith, length-append}
use Rattle.std.specs.List.{list_any, remove}
use Rattle.std.specs.Prelude.{find}
use Rattle.std.proofs.lemmas.Bool.{or_parts}
use Rattle.std.proofs.lemmas.Bool.Decides.{Decides-eqb}
use Rattle.std.proofs.lemmas.List.{map-append}
use Rattle.std.proofs.lemmas.List.Sums.{sum_by-cons, sum_by-append}
use Rattle.mal_base.specs.Limits.{limits}
use Rattle.mal_base.specs.Names.{is_name}
use Rattle.mal_base.specs.declared.hall_fault.AdmitFault.{AdmitFault}
use Rattle.mal_base.specs.declared.hall_fault.AdmitFault.TheVariants.{Present, TenantFull, HallFull, OutOfMemory}
use Rattle.mal_base.specs.declared.hall_fault.PackFault.TheVariants as packing
use Rattle.mal_parcel.specs.Parcelled.{Parcelled}
use Rattle.mal_hall.specs.HallView.{AreNoted, Inside, IsHall, out_in, owed_in, unclosed_in}
use Rattle.mal_hall.specs.Moving.{open_one, new_one}
use Rattle.mal_hall.specs.Named.{HasNoted, jobs_at}
use Rattle.mal_hall.proofs.HallLemmas.{Grown, Sits, called-none, grown, noted-comes, noted-stays}
use Rattle.mal_hall.proofs.KeptLemmas.{jobs_of-push, of_tenant, unclosed_at}
use Rattle.spec_node.specs.Load.{counted}
use Rattle.spec_job.specs.Counts.{starts_out}
use Rattle.spec_job.specs.KeyedJob.{Key, KeyedJob}
use Rattle.spec_job.specs.Lawful.{IsLawful}
use Rattle.spec_job.specs.SoloMachine.{Own, Volume, SoloMachine, place_at, solo}
use Rattle.spec_hall.specs.Calls.{IsAdmission, IsAdmitting, HasCalled, Packs, MayCome, first_out}
use Rattle.spec_hall.specs.Events.{Event, Open, Revise, Reask, Close, Balance, Start, Finish, Exchange, Leave, Arrive}
use Rattle.spec_hall.specs.Legal.{Allowed, Legal, MayArrive, MayLeave, job_of, jobs_of}
use Rattle.spec_hall.specs.Own.{brought_by, is_key, is_text, own, volume_after}
use Rattle.spec_hall.specs.Seats.{Seat, arrived_seat, place_of, seats_without}
use Rattle.spec_hall.specs.Spots.{tag_of, tags_of}
use Rattle.spec_hall.specs.States.{Live, leases, names_of, names_step, states, with_key}
use Rattle.spec_hall.proofs.ComingLemmas.{NoneComes, arrive-comes}
use Rattle.spec_hall.proofs.DueLemmas.{seats-apart}
use Rattle.spec_hall.proofs.GoingLemmas.{brought-is, brought-lawful, first-home, home-places}
use Rattle.spec_hall.proofs.JournalLemmas.{seats-other, tags-leave}
use Rattle.spec_hall.proofs.KeyLemmas.{AreApart, is_key-Decides, is_text-Decides}
use Rattle.spec_hall.proofs.PushLemmas.{balanced-push, names-push}
use Rattle.spec_hall.proofs.SeatLemmas.{seat_keys, seated-arrive, seated-leave}
use Rattle.spec_hall.proofs.SpotLemmas.{AreOthers, tags_without, spots-arrive, spots-leave, starts-push}
use Rattle.spec_hall.proofs.StatesLemmas.{job_of-absent, job_of-found, legal_from-keeps}
use Rattle.spec_hall.proofs.VolumeLemmas.{solo-volume}

-- the first of the nodes from one on that is out
abbrev pub out_from : SoloMachine → ℕ → Option ℕ
out_from s n = find (λ i. is_some (place_at s i).out) (counted n (64 - n))

pub out-next : (s : SoloMachine) (n : ℕ) → n < 64 → out_from s n ≡ cond (is_some (place_at s n).out) (Some n) (out_from s (n + 1))
out-next s n low =
    let more : 64 - n ≡ suc (64 - (n + 1)) = omega (arith, low) in
    ap (λ (m : ℕ). find (λ i. is_some (place_at s i).out) (counted n m)) more

pub out-here : (s : SoloMachine) (n : ℕ) (b : Bool) → n < 64 → b ≡ is_some (place_at s n).out → b ≡ true → out_from s n ≡ Some n
out-here s n b low scan is = out-next s n low ∙ ap (λ (c : Bool). cond c (Some n) (out_from s (n + 1))) (sym scan ∙ is)

pub out-later : (s : SoloMachine) (n : ℕ) (b : Bool) → n < 64 → b ≡ is_some (place_at s n).out → b ≡ false → out_from s (n + 1) ≡ out_from s n
out-later s n b low scan not_is = sym (out-next s n low ∙ ap (λ (c : Bool). cond c (Some n) (out_from s (n + 1))) (sym scan ∙ not_is))

pub out-end : (s : SoloMachine) (n : ℕ) → 64 ≤ n → out_from s n ≡ None
out-end s n high = let none : 64 - n ≡ 0 = omega (arith, high) in ap (λ (m : ℕ). find (λ i. is_some (place_at s i).out) (counted n m)) none

-- what a job with a volume brings, and one without
pub brings-still : (k : Key) (past : List Event) (volume : ℕ) → volume_after (own k past) ≡ volume → (volume ≡ 0 → ⊥) → own k past ++ Volume 0 ∷ [] ≡ brought_by k past
brings-still k past volume is some = by_test (0 == volume_after (own k past)) refl
  where
    by_test : (b : Bool) → (0 == volume_after (own k past)) ≡ b → own k past ++ Volume 0 ∷ [] ≡ cond b (own k past) (own k past ++ Volume 0 ∷ [])
    by_test true q = absurd (some (sym (is_equal q ∙ is)))
      where
        is_equal : (0 == volume_after (own k past)) ≡ true → 0 ≡ volume_after (own k past)
        is_equal e = (Decides-eqb 0 (volume_after (own k past))).0 e
    by_test false q = refl

pub brings-none : (k : Key) (past : List Event) (volume : ℕ) → volume_after (own k past) ≡ volume → volume ≡ 0 → own k past ≡ brought_by k past
brings-none k past volume is none = ap (λ (b : Bool). cond b (own k past) (own k past ++ Volume 0 ∷ [])) (sym ((Decides-eqb 0 (volume_after (own k past))).1 (sym (is ∙ none))))

-- a job that is there and has no node out may go, and what it brings is lawful
pub record MayGo (past : List Event) (k : Key) (t : KeyedJob) : Type 0 where
  pub may : MayLeave past k t
  pub lawful : IsLawful (brought_by k past)
  pub home : starts_out t.state.places ≡ 0
  pub state : let s : SoloMachine = record t.state { volume = 0 } in solo (brought_by k past) ≡ s
  pub volume : volume_after (own k past) ≡ t.state.volume

pub may-go : (w : ℕ) (past : List Event) (k : Key) (t : KeyedJob) → 1 ≤ w → w ≤ 64 → Legal w past → job_of k (states past) ≡ Some t → first_out t.state ≡ None → MayGo past k t
may-go w past k t some bound legal job none = record {
  may = record { job = job; home = home };
  lawful = brought-lawful w past k some bound legal t job;
  home = ap (λ (s : SoloMachine). starts_out s.places) is ∙ home-places w past k some bound legal home;
  state = brought-is k past ∙ ap still (sym is);
  volume = sym (solo-volume (own k past)) ∙ ap (λ (s : SoloMachine). s.volume) (sym is);
}
  where
    still : SoloMachine → SoloMachine
    still s = record s { volume = 0 }

    is : t.state ≡ solo (own k past)
    is = ap (λ (u : KeyedJob). u.state) (sym (job_of-found past k t job).machine)

    home : list_any (λ l. is_key k l.key) (leases past) ≡ false
    home = first-home w past k some bound legal (ap first_out (sym is) ∙ none)

pub hall-go : (x : Inside) (k : Key) (t : KeyedJob) → IsHall x → job_of k (states x.entries.events) ≡ Some t → first_out t.state ≡ None → MayGo x.entries.events k t
hall-go x k t hall job none = may-go x.entries.workers x.entries.events k t hall.seated.some_worker hall.bound hall.seated.legal job none

-- no tenant has more than 64 names
abbrev HasFewNames : List Event → Type 0
HasFewNames past = (tenant : List ℕ) → jobs_of tenant (names_of past) ≤ limits.jobs_of_tenant

name-few : (k : Key) (names : List Key) (tenant : List ℕ) → jobs_of tenant names ≤ limits.jobs_of_tenant → (list_any (is_key k) names ≡ false → jobs_of k.tenant names < limits.jobs_of_tenant) → jobs_of tenant (with_key k names) ≤ limits.jobs_of_tenant
name-few k names tenant few room = by_test (list_any (is_key k) names) refl
  where
    by_tenant : list_any (is_key k) names ≡ false → (b : Bool) → is_text tenant k.tenant ≡ b → jobs_of tenant (names ++ k ∷ []) ≤ limits.jobs_of_tenant
    by_tenant new true q =
        let same : tenant ≡ k.tenant = (is_text-Decides tenant k.tenant).0 q in
        let here : jobs_of tenant names ≡ jobs_of k.tenant names = ap (λ (x : List ℕ). jobs_of x names) same in
        let one : of_tenant tenant k ≡ 1 = ap (λ (b : Bool). if b then 1 else 0) q in
        omega (arith, jobs_of-push tenant names k, one, here, room new)
    by_tenant new false q =
        let none : of_tenant tenant k ≡ 0 = ap (λ (b : Bool). if b then 1 else 0) q in
        omega (arith, jobs_of-push tenant names k, none, few)

    by_test : (b : Bool) → list_any (is_key k) names ≡ b → jobs_of tenant (cond b names (names ++ k ∷ [])) ≤ limits.jobs_of_tenant
    by_test true q = few
    by_test false q = by_tenant q (is_text tenant k.tenant) refl

step-few : (w : ℕ) (past : List Event) (e : Event) → Allowed w past e → HasFewNames past → (tenant : List ℕ) → jobs_of tenant (names_step (names_of past) e) ≤ limits.jobs_of_tenant
step-few w past (Open k ask) may few tenant = name-few k (names_of past) tenant (few tenant) (λ new. may.tenant_room)
step-few w past (Revise k number r) may few tenant = few tenant
step-few w past (Reask k weight) may few tenant = few tenant
step-few w past (Close k) may few tenant = few tenant
step-few w past (Balance shares) may few tenant = few tenant
step-few w past (Start k index worker) may few tenant = few tenant
step-few w past (Finish k index worker outcome) may few tenant = few tenant
step-few w past (Exchange k) may few tenant = few tenant
step-few w past (Leave k) may few tenant = few tenant
step-few w past (Arrive k brought) may few tenant = name-few k (names_of past) tenant (few tenant) may.tenant_room

event-few : (w : ℕ) (past : List Event) (e : Event) → Allowed w past e → HasFewNames past → HasFewNames (past ++ e ∷ [])
event-few w past e may few tenant = subst (λ (ks : List Key). jobs_of tenant ks ≤ limits.jobs_of_tenant) (sym (names-push past e)) (step-few w past e may few tenant)

few-names : (w : ℕ) (past : List Event) → Legal w past → HasFewNames past
few-names w past legal = legal_from-keeps w HasFewNames (λ h e may few. event-few w h e may few) [] past legal (λ tenant. omega arith)

pub hall-few : (x : Inside) (tenant : List ℕ) → IsHall x → jobs_at x.names.tenants tenant ≤ limits.jobs_of_tenant
hall-few x tenant hall = omega (arith, hall.noted.named.jobs tenant, few-names x.entries.workers x.entries.events hall.seated.legal tenant)

-- a job that may come may arrive where its parcel is in form
pub may-arrive : (past : List Event) (k : Key) (brought : List Own) → MayCome past k → is_name k.tenant ≡ true → is_name k.job ≡ true → IsLawful brought → starts_out (solo brought).places ≡ 0 → (solo brought).volume ≡ 0 → MayArrive past k brought
may-arrive past k brought come tenant job lawful home still = record {
  tenant = tenant;
  job = job;
  absent = come.absent;
  tenant_room = come.tenant_room;
  hall_room = come.hall_room;
  lawful = lawful;
  home = home;
  still = sym (solo-volume brought) ∙ still;
}

-- a job that has no room is not admitted
pub not-admitted : (past : List Event) (k : Key) (brought : List Own) (fault : AdmitFault) → IsAdmission past k (Err fault) → IsAdmitting past k brought (Err fault) []
not-admitted past k brought Present is = (is, refl)
not-admitted past k brought TenantFull is = (is, refl)
not-admitted past k brought HallFull is = (is, refl)
not-admitted past k brought OutOfMemory is = absurd is

open-few : (b : Bool) → open_one b ≤ 1
open-few true = omega arith
open-few false = omega arith

open-is : (s : Seat) → unclosed_at s ≡ open_one s.job.titled.state.closed
open-is s = by_test s.job.titled.state.closed
  where
    by_test : (b : Bool) → cond (not b) 1 0 ≡ open_one b
    by_test true = refl
    by_test false = refl

unclosed-push : (ss : List Seat) (s : Seat) → unclosed_in (ss ++ s ∷ []) ≡ unclosed_in ss + unclosed_at s
unclosed-push ss s = omega (arith, sum_by-append unclosed_at ss (s ∷ []), sum_by-cons unclosed_at s [])

-- a job arrives
pub hall-arrive : (x y : Inside) (k : Key) (brought : List Own) (jobs : ℕ) → IsHall x → y.entries.workers ≡ x.entries.workers → y.entries.events ≡ x.entries.events ++ Arrive k brought ∷ [] → y.seats ≡ x.seats ++ arrived_seat x.comings k brought ∷ [] → y.spots ≡ x.spots → y.starts ≡ x.starts → HasNoted x.comings k x.names y.names → MayArrive x.entries.events k brought → jobs ≡ jobs_at x.names.tenants k.tenant → y.unclosed ≡ x.unclosed + open_one (solo brought).closed → y.tenants ≡ x.tenants + new_one jobs → y.comings ≡ x.comings + 1 → y.moved ≡ true → owed_in x.unclosed x.seats x.spots + 2 ≤ y.entries.room → Grown x y (Arrive k brought ∷ [])
hall-arrive x y k brought jobs hall workers events seats spots starts names may count unclosed tenants comings moved room =
    let past : List Event = x.entries.events in
    let e : Event = Arrive k brought in
    let seat : Seat = arrived_seat x.comings k brought in
    let tags : tags_of y.seats ≡ tags_of x.seats ++ tag_of seat ∷ [] = ap tags_of seats ∙ map-append tag_of x.seats (seat ∷ []) in
    let others : AreOthers k (tags_of x.seats) = seats-other past x.seats k hall.seated.jobs (job_of-absent past k may.absent) in
    let kept = spots-arrive x.entries.workers past (tags_of x.seats) x.spots (tag_of seat) brought hall.noted.comings_is refl others hall.spots in
    let noted = noted-comes x y e k jobs hall (arrive-comes k brought) (names-push past e) (count ∙ hall.noted.named.jobs k.tenant) names tenants comings (moved ∙ sym (ap (λ (o : Option (List Live)). is_none o) (balanced-push past e))) in
    let long : length y.seats ≡ length x.seats + 1 = ap (λ (ss : List Seat). length ss) seats ∙ length-append x.seats (seat ∷ []) in
    let more : unclosed_in y.seats ≡ unclosed_in x.seats + unclosed_at seat = ap unclosed_in seats ∙ unclosed-push x.seats seat in
    grown x y (e ∷ []) hall workers events (rw seats (seated-arrive x.entries.workers past x.seats x.comings k brought hall.seated may)) (rw (tags, spots) kept) (starts ∙ (hall.starts_is ∙ sym (starts-push past e))) (omega (arith, unclosed, hall.unclosed_is, more, open-is seat)) noted (omega (arith, room, ap out_in spots, unclosed, long, open-few (solo brought).closed))

-- the seats without that of a key that none has
without-none : (k : Key) (ss : List Seat) → list_any (is_key k) (seat_keys ss) ≡ false → seats_without k ss ≡ ss
without-none k [] none = refl
without-none k (x ∷ xs) none =
    let parts = or_parts (is_key k x.job.titled.key) (list_any (is_key k) (seat_keys xs)) none in
    ap (λ (b : Bool). cond (not b) (x ∷ seats_without k xs) (seats_without k xs)) parts.0
    ∙ ap (λ (ss : List Seat). x ∷ ss) (without-none k xs parts.1)

-- the seats but that at the place of a key
removed-key : (k : Key) (ss : List Seat) (at : ℕ) → AreApart (seat_keys ss) → place_of k ss ≡ Some at → remove ss at ≡ seats_without k ss
removed-key k [] at apart place = absurd (cc)
removed-key k (x ∷ xs) at apart place = by_test (is_key k x.job.titled.key) refl place (λ m e. removed-key k xs m apart.1 e)
  where
    by_rest : (o : Option ℕ) → place_of k xs ≡ o → option_map suc o ≡ Some at → ((m : ℕ) → place_of k xs ≡ Some m → remove xs m ≡ seats_without k xs) → remove (x ∷ xs) at ≡ x ∷ seats_without k xs
    by_rest None e q rest = absurd (cc)
    by_rest (Some m) e q rest =
        let same : suc m ≡ at = cc in
        ap (remove (x ∷ xs)) (sym same) ∙ ap (λ (ss : List Seat). x ∷ ss) (rest m e)

    by_test : (b : Bool) → is_key k x.job.titled.key ≡ b → cond b (Some 0) (option_map suc (place_of k xs)) ≡ Some at → ((m : ℕ) → place_of k xs ≡ Some m → remove xs m ≡ seats_without k xs) → remove (x ∷ xs) at ≡ cond (not b) (x ∷ seats_without k xs) (seats_without k xs)
    by_test true e q rest =
        let same : 0 ≡ at = cc in
        let key : x.job.titled.key ≡ k = sym ((is_key-Decides k x.job.titled.key).0 e) in
        ap (remove (x ∷ xs)) (sym same) ∙ sym (without-none k xs (ap (λ (j : Key). list_any (is_key j) (seat_keys xs)) (sym key) ∙ apart.0))
    by_test false e q rest = by_rest (place_of k xs) refl q rest

-- what is counted of the seats but one
unclosed-removed : (ss : List Seat) (at : ℕ) (s : Seat) → slice_get ss at ≡ Some s → unclosed_in (remove ss at) + unclosed_at s ≡ unclosed_in ss
unclosed-removed [] at s there = absurd (cc)
unclosed-removed (x ∷ xs) zero s there =
    let same : x ≡ s = cc in
    omega (arith, sum_by-cons unclosed_at x xs, ap unclosed_at same)
unclosed-removed (x ∷ xs) (suc n) s there = omega (arith, sum_by-cons unclosed_at x (remove xs n), sum_by-cons unclosed_at x xs, unclosed-removed xs n s there)

length-removed : (ss : List Seat) (at : ℕ) (s : Seat) → slice_get ss at ≡ Some s → length (remove ss at) + 1 ≡ length ss
length-removed [] at s there = absurd (cc)
length-removed (x ∷ xs) zero s there = omega arith
length-removed (x ∷ xs) (suc n) s there = omega (arith, length-removed xs n s there)

-- a job that is not closed is counted
pub hall-counted : (x : Inside) (k : Key) (at : ℕ) (s : Seat) → IsHall x → Sits x.seats k at s → open_one s.job.titled.state.closed ≤ x.unclosed
hall-counted x k at s hall sits = omega (arith, hall.unclosed_is, unclosed-removed x.seats at s sits.seat, open-is s)

-- there is room for the leave of a job that is there
pub hall-some_room : (x : Inside) (k : Key) (at : ℕ) (s : Seat) → IsHall x → Sits x.seats k at s → 1 ≤ x.entries.room
hall-some_room x k at s hall sits = omega (arith, hall.room, length-removed x.seats at s sits.seat)

-- a job leaves
pub hall-leave : (x y : Inside) (k : Key) (at : ℕ) (s : Seat) (t : KeyedJob) → IsHall x → Sits x.seats k at s → MayLeave x.entries.events k t → y.entries.workers ≡ x.entries.workers → y.entries.events ≡ x.entries.events ++ Leave s.job.titled.key ∷ [] → s.job.titled.key ≡ k → y.seats ≡ remove x.seats at → y.spots ≡ x.spots → y.starts ≡ x.starts → y.unclosed ≡ x.unclosed - open_one s.job.titled.state.closed → y.names ≡ x.names → y.tenants ≡ x.tenants → y.comings ≡ x.comings → y.moved ≡ true → y.entries.room + 1 ≡ x.entries.room → Grown x y (Leave k ∷ [])
hall-leave x y k at s t hall sits may workers entered key seats spots starts unclosed names tenants comings moved room =
    let past : List Event = x.entries.events in
    let e : Event = Leave k in
    let events : y.entries.events ≡ past ++ e ∷ [] = subst (λ (j : Key). y.entries.events ≡ past ++ Leave j ∷ []) key entered in
    let none : NoneComes e = record { steps = λ j n. refl; counts = λ n. refl } in
    let here : y.seats ≡ seats_without k x.seats = seats ∙ removed-key k x.seats at (seats-apart x.entries.workers past x.seats hall.seated) sits.place in
    let tags : tags_of y.seats ≡ tags_without k (tags_of x.seats) = ap tags_of here ∙ tags-leave k x.seats in
    let kept = spots-leave x.entries.workers past (tags_of x.seats) x.spots k may.home hall.spots in
    let noted : AreNoted (past ++ e ∷ []) y.names y.tenants y.comings y.moved = rw (names, tenants, comings, moved) (noted-stays x e true hall none (names-push past e) (sym (ap (λ (o : Option (List Live)). is_none o) (balanced-push past e)))) in
    let long : length y.seats + 1 ≡ length x.seats = ap (λ (ss : List Seat). length ss + 1) seats ∙ length-removed x.seats at s sits.seat in
    let less : unclosed_in y.seats + unclosed_at s ≡ unclosed_in x.seats = ap (λ (ss : List Seat). unclosed_in ss + unclosed_at s) seats ∙ unclosed-removed x.seats at s sits.seat in
    grown x y (e ∷ []) hall workers events (rw here (seated-leave x.entries.workers past x.seats k t hall.seated may)) (rw (tags, spots) kept) (starts ∙ (hall.starts_is ∙ sym (starts-push past e))) (omega (arith, unclosed, hall.unclosed_is, less, open-is s)) noted (omega (arith, room, hall.room, ap out_in spots, unclosed, long, hall-counted x k at s hall sits))

-- a job that may leave is there
pub hall-there : (past : List Event) (k : Key) (t : KeyedJob) → MayLeave past k t → job_of k (states past) ≡ None → ⊥
hall-there past k t may absent = let both : Some t ≡ None = sym may.job ∙ absent in cc

-- a job is packed, or memory runs out to that
pub packs-job : (w : ℕ) (past : List Event) (k : Key) (t : KeyedJob) (p : Parcelled) (o : Option ℕ) → t.key ≡ k → MayLeave past t.key t → o ≡ first_out t.state → o ≡ None → p ≡ record { key = t.key; own = brought_by t.key past } → HasCalled w past (Packs k) (Ok p.own) past
packs-job w past k t p o key may first none is =
    called-none w past (Packs k) (Ok p.own) (t, subst (λ (j : Key). MayLeave past j t) key may, sym first ∙ none, ap (λ (q : Parcelled). q.own) is ∙ ap (λ (j : Key). brought_by j past) key, refl)

pub packs-none : (w : ℕ) (past : List Event) (k : Key) (t : KeyedJob) → t.key ≡ k → MayLeave past t.key t → HasCalled w past (Packs k) (Err packing.OutOfMemory) past
packs-none w past k t key may = called-none w past (Packs k) (Err packing.OutOfMemory) (t, subst (λ (j : Key). MayLeave past j t) key may, refl)

-- a further tenant has room
pub tenants-few : (x : Inside) (k : Key) (jobs : ℕ) → IsHall x → MayCome x.entries.events k → jobs ≡ jobs_at x.names.tenants k.tenant → jobs ≡ 0 → x.tenants < limits.tenants
tenants-few x k jobs hall come count none =
    let room = come.hall_room (sym (count ∙ hall.noted.named.jobs k.tenant) ∙ none) in
    omega (arith, hall.noted.tenants_is, room)
