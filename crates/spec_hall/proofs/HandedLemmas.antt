-- What a lease was handed out with stays, whatever happens while it is out.
use Rattle.std.proofs.Common.{◌≡◌, ℕ, zero, suc, ◌+◌, ◌<◌, ◌≤◌, Bool, true, false, cond, not, ◌&&◌, ◌==◌, List, [], ◌∷◌, ◌++◌, get_or, slice_set, length, Option, Some, None, option_map, is_some, inl, inr, ◌⊎◌, refl, sym, ◌∙◌, ap, subst, arith}
use Rattle.std.specs.Option.{option_map_or}
use Rattle.std.proofs.lemmas.Bool.{both_ways, false_from_ne_true}
use Rattle.std.proofs.lemmas.Bool.Decides.{Decides-eqb}
use Rattle.mal_base.specs.Asks.{Terms}
use Rattle.mal_base.specs.declared.profile.Profile.{Profile}
use Rattle.mal_base.specs.declared.verdict.Outcome.{Outcome}
use Rattle.mal_revision.specs.Posted.{Posted}
use Rattle.spec_job.specs.Journal.{JournalEntry}
use Rattle.spec_job.specs.SoloMachine.{Own, Opened, Revised, Reasked, Closed, Volume, Started, Finished, Exchanged, SoloMachine, NodeSlot, Lease, vacant, place_at, solo, solo_step, start_entries, current, first_empty, finished_lease, finished, exchanged}
use Rattle.spec_job.specs.KeyedJob.{Key}
use Rattle.spec_job.proofs.PlacesLemmas.{marked-place, set-place}
use Rattle.spec_job.proofs.StepLemmas.{finish-keeps}
use Rattle.spec_hall.specs.Calls.{Handed, handed}
use Rattle.spec_hall.specs.Events.{Event, Open, Revise, Reask, Close, Balance, Start, Finish, Exchange, Leave, Arrive}
use Rattle.spec_hall.specs.Leases.{Numbered, numbered, start_number}
use Rattle.spec_hall.specs.Legal.{Allowed, Legal}
use Rattle.spec_hall.specs.Own.{own, own_step, adds, adds_volume, is_key, volume_in}
use Rattle.spec_hall.specs.States.{LeaseOut, job_number, leases, lease_of}
use Rattle.spec_hall.proofs.KeyLemmas.{is_key-Decides}
use Rattle.spec_hall.proofs.LeasesLemmas.{lease-out, lease-worker, start-free}
use Rattle.spec_hall.proofs.ComingLemmas.{arrive-comes, number-other, number-stays, open-comes}
use Rattle.spec_hall.proofs.OrderlyLemmas.{lease-opened, legal-orderly, open-absent, was_opened}
use Rattle.spec_hall.proofs.OutLemmas.{EndsAt, finished-out, is_out, lease-ends, settled-same}
use Rattle.spec_hall.proofs.PushLemmas.{Legal-push, adds-keeps, adds_volume-keeps, own-push, solo-push}
use Rattle.spec_hall.proofs.SpotLemmas.{numbered-push}
use Rattle.spec_hall.proofs.StatesLemmas.{job_of-absent}
use Rattle.spec_hall.proofs.OnceLemmas.{open-other}
use Rattle.spec_hall.proofs.VolumeLemmas.{revise-keeps}

-- what stands at a place as a lease concerns it: the entries of the journal, and the start that is out
record Left : Type 0 where
  entries : List JournalEntry
  out : Option Lease

abbrev left_of : NodeSlot → Left
left_of p = record { entries = p.entries; out = p.out }

abbrev left_at : SoloMachine → ℕ → Left
left_at s i = left_of (place_at s i)

places-left : (s t : SoloMachine) (i : ℕ) → t.places ≡ s.places → left_at t i ≡ left_at s i
places-left s t i same = ap (λ (ps : List NodeSlot). left_of (get_or ps i vacant)) same

-- an event of the machine leaves it at each place of which it is not
revised-left : (s : SoloMachine) (r : Posted) (i : ℕ) → left_at (solo_step s (Revised r)) i ≡ left_at s i
revised-left s r i = places-left s (solo_step s (Revised r)) i (settled-same (first_empty s.log) _)

exchanged-left : (s : SoloMachine) (i : ℕ) → left_at (solo_step s Exchanged) i ≡ left_at s i
exchanged-left s i = by_mark (marked-place s.volume (length s.log) 0 s.places i)
  where
    by_mark : (m : ℕ) × (get_or (exchanged s).places i vacant ≡ record (get_or s.places i vacant) { mark = m }) → left_at (solo_step s Exchanged) i ≡ left_at s i
    by_mark (m, e) = ap left_of e

set-other : (ps : List NodeSlot) (i j : ℕ) (p : NodeSlot) → (j ≡ i → ⊥) → get_or (slice_set ps i p) j vacant ≡ get_or ps j vacant
set-other ps i j p other = by_place (set-place ps i j p)
  where
    by_place : ((j ≡ i) × (get_or (slice_set ps i p) j vacant ≡ p)) ⊎ (get_or (slice_set ps i p) j vacant ≡ get_or ps j vacant) → get_or (slice_set ps i p) j vacant ≡ get_or ps j vacant
    by_place (inl k) = absurd (other k.0)
    by_place (inr e) = e

started-left : (s : SoloMachine) (i j : ℕ) → (j ≡ i → ⊥) → left_at (solo_step s (Started i)) j ≡ left_at s j
started-left s i j other = ap left_of (set-other s.places i j (record (place_at s i) { out = Some (record { revision = current s; adds = start_entries s (place_at s i) }); starts = (place_at s i).starts + 1 }) other)

finished-left : (s : SoloMachine) (i j : ℕ) (o : Outcome) → (j ≡ i → ⊥) → left_at (solo_step s (Finished i o)) j ≡ left_at s j
finished-left s i j o other = by_lease (place_at s i).out refl
  where
    by_lease : (q : Option Lease) → (place_at s i).out ≡ q → left_at (solo_step s (Finished i o)) j ≡ left_at s j
    by_lease None e = ap (λ (x : Option Lease). left_at (finished s i (place_at s i) x o) j) e
    by_lease (Some l) e =
        let ends : EndsAt s (finished_lease s i (place_at s i) l o) i = lease-ends s i (place_at s i) l o in
        let whole : (solo_step s (Finished i o)).places ≡ slice_set s.places i ends.place =
        ap (λ (x : Option Lease). (finished s i (place_at s i) x o).places) e ∙ (settled-same (first_empty (finished_lease s i (place_at s i) l o).log) (finished_lease s i (place_at s i) l o) ∙ ends.is) in
        ap (λ (ps : List NodeSlot). left_of (get_or ps j vacant)) whole ∙ ap left_of (set-other s.places i j ends.place other)

-- an own event that joins leaves it where it is of another node
other-left : (mine : Bool) (es : List Own) (o : Own) (i : ℕ) → (mine ≡ true → (s : SoloMachine) → left_at (solo_step s o) i ≡ left_at s i) → left_at (solo (adds mine es o)) i ≡ left_at (solo es) i
other-left mine es o i same = adds-keeps (λ os. left_at (solo os) i ≡ left_at (solo es) i) mine es o refl (λ joins. ap (λ (s : SoloMachine). left_at s i) (solo-push es o) ∙ same joins (solo es))

-- or leaves it for each machine, whether it joins or not
adds-left : (mine : Bool) (es : List Own) (o : Own) (i : ℕ) → ((s : SoloMachine) → left_at (solo_step s o) i ≡ left_at s i) → left_at (solo (adds mine es o)) i ≡ left_at (solo es) i
adds-left mine es o i same = other-left mine es o i (λ joins. same)

volume-left : (v : ℕ) (es : List Own) (i : ℕ) → left_at (solo (adds_volume v es)) i ≡ left_at (solo es) i
volume-left v es i = adds_volume-keeps (λ os. left_at (solo os) i ≡ left_at (solo es) i) v es refl (ap (λ (s : SoloMachine). left_at s i) (solo-push es (Volume v)))

-- a lease that is out before an event and after it
record IsOutStill (w : ℕ) (past : List Event) (e : Event) (worker : ℕ) (l : LeaseOut) : Type 0 where
  some : 1 ≤ w
  bound : w ≤ 64
  legal : Legal w past
  allowed : Allowed w past e
  out : lease_of worker (leases past) ≡ Some l
  still : lease_of worker (leases (past ++ e ∷ [])) ≡ Some l

-- it is of that worker
mine-is : (w : ℕ) (past : List Event) (e : Event) (worker : ℕ) (l : LeaseOut) → IsOutStill w past e worker l → l.worker ≡ worker
mine-is w past e worker l is = (lease-worker w past worker l is.some is.bound is.legal is.out).0

held-as : (h : List Event) (worker : ℕ) (l : LeaseOut) → l.worker ≡ worker → lease_of worker (leases h) ≡ Some l → lease_of worker (leases h) ≡ Some (record { worker = worker; key = l.key; index = l.index })
held-as h worker l same e = e ∙ ap (λ (v : ℕ). let o : Option LeaseOut = Some (record { worker = v; key = l.key; index = l.index }) in o) same

-- its node is not the one that starts
start-other : (w : ℕ) (past : List Event) (k : Key) (index v worker : ℕ) (l : LeaseOut) → IsOutStill w past (Start k index v) worker l → is_key l.key k ≡ true → l.index ≡ index → ⊥
start-other w past k index v worker l is mine same =
    let key : l.key ≡ k = (is_key-Decides l.key k).0 mine in
    let held : lease_of worker (leases past) ≡ Some (record { worker = worker; key = k; index = l.index }) = subst (λ (j : Key). lease_of worker (leases past) ≡ Some (record { worker = worker; key = j; index = l.index })) key (held-as past worker l (mine-is w past (Start k index v) worker l is) is.out) in
    (start-free w past k index v is.some is.bound is.legal is.allowed).home worker l.index held same

-- nor the one that comes back
finish-other : (w : ℕ) (past : List Event) (k : Key) (index v : ℕ) (o : Outcome) (worker : ℕ) (l : LeaseOut) → IsOutStill w past (Finish k index v o) worker l → is_key l.key k ≡ true → l.index ≡ index → ⊥
finish-other w past k index v o worker l is mine same = both_ways (is_out (solo (own k now)) index) home out
  where
    now : List Event
    now = past ++ Finish k index v o ∷ []

    key : l.key ≡ k
    key = (is_key-Decides l.key k).0 mine

    legal : Legal w now
    legal = Legal-push w past (Finish k index v o) is.legal is.allowed

    out : is_out (solo (own k now)) index ≡ true
    out = subst (λ (i : ℕ). is_out (solo (own k now)) i ≡ true) same (subst (λ (j : Key). is_out (solo (own j now)) l.index ≡ true) key (lease-out w now l.key l.index worker is.some is.bound legal (held-as now worker l (mine-is w past (Finish k index v o) worker l is) is.still)))

    there : is_out (solo (own k past)) index ≡ true
    there = lease-out w past k index v is.some is.bound is.legal is.allowed

    within : (ps : List NodeSlot) (i : ℕ) → is_some (get_or ps i vacant).out ≡ true → i < length ps
    within [] i e = absurd (cc)
    within (p ∷ ps) zero e = omega arith
    within (p ∷ ps) (suc i) e = let u : i < length ps = within ps i e in omega arith

    same_key : is_key k k ≡ true
    same_key = subst (λ (j : Key). is_key j k ≡ true) key mine

    and-false : (a b : Bool) → b ≡ true → (a && not b) ≡ false
    and-false true true e = refl
    and-false true false e = absurd (cc)
    and-false false b e = refl

    home : is_out (solo (own k now)) index ≡ false
    home =
        ap (λ (es : List Own). is_out (solo es) index) (own-push k past (Finish k index v o) ∙ ap (λ (b : Bool). adds b (own k past) (Finished index o)) same_key)
        ∙ (ap (λ (s : SoloMachine). is_out s index) (solo-push (own k past) (Finished index o))
        ∙ (finished-out (solo (own k past)) index index o there (within (solo (own k past)).places index there)
        ∙ and-false (is_out (solo (own k past)) index) (index == index) ((Decides-eqb index index).1 refl)))

-- it is of another job than one that comes
there-still : (w : ℕ) (past : List Event) (e : Event) (worker : ℕ) (l : LeaseOut) → IsOutStill w past e worker l → was_opened past l.key ≡ true
there-still w past e worker l is = lease-opened past worker l.index l.key (legal-orderly w past is.legal) (held-as past worker l (mine-is w past e worker l is) is.out)

opened-other : (w : ℕ) (past : List Event) (k : Key) (ask : Terms) (worker : ℕ) (l : LeaseOut) → IsOutStill w past (Open k ask) worker l → is_key l.key k ≡ false
opened-other w past k ask worker l is = open-other past k l.key (there-still w past (Open k ask) worker l is) (open-absent past k (legal-orderly w past is.legal) is.allowed.fresh)

arrive-other : (w : ℕ) (past : List Event) (k : Key) (brought : List Own) (worker : ℕ) (l : LeaseOut) → IsOutStill w past (Arrive k brought) worker l → is_key l.key k ≡ false
arrive-other w past k brought worker l is = open-other past k l.key (there-still w past (Arrive k brought) worker l is) (job_of-absent past k is.allowed.absent)

-- a leave takes no more than the volume
leave-keeps : (P : List Own → Type 0) (mine : Bool) (es : List Own) → P es → P (adds_volume 0 es) → P (cond mine (adds_volume 0 es) es)
leave-keeps P true es h more = more
leave-keeps P false es h more = h

event-left : (w : ℕ) (past : List Event) (e : Event) (worker : ℕ) (l : LeaseOut) → IsOutStill w past e worker l → left_at (solo (own_step l.key (own l.key past) e)) l.index ≡ left_at (solo (own l.key past)) l.index
event-left w past (Open k ask) worker l is = adds-left (is_key l.key k) (own l.key past) (Opened ask) l.index (λ s. refl)
event-left w past (Revise k number r) worker l is = adds-left (is_key l.key k) (own l.key past) (Revised r) l.index (λ s. revised-left s r l.index)
event-left w past (Reask k weight) worker l is = adds-left (is_key l.key k) (own l.key past) (Reasked weight) l.index (λ s. refl)
event-left w past (Close k) worker l is = adds-left (is_key l.key k) (own l.key past) Closed l.index (λ s. refl)
event-left w past (Balance shares) worker l is = volume-left (volume_in l.key shares) (own l.key past) l.index
event-left w past (Start k index v) worker l is = other-left (is_key l.key k) (own l.key past) (Started index) l.index (λ mine s. started-left s index l.index (start-other w past k index v worker l is mine))
event-left w past (Finish k index v o) worker l is = other-left (is_key l.key k) (own l.key past) (Finished index o) l.index (λ mine s. finished-left s index l.index o (finish-other w past k index v o worker l is mine))
event-left w past (Exchange k) worker l is = adds-left (is_key l.key k) (own l.key past) Exchanged l.index (λ s. exchanged-left s l.index)
event-left w past (Leave k) worker l is = leave-keeps (λ os. left_at (solo os) l.index ≡ left_at (solo (own l.key past)) l.index) (is_key l.key k) (own l.key past) refl (volume-left 0 (own l.key past) l.index)
event-left w past (Arrive k brought) worker l is = ap (λ (b : Bool). left_at (solo (cond b brought (own l.key past))) l.index) (arrive-other w past k brought worker l is)

-- the profile that a job asks for is left by an own event that is no opening
adds-profile : (mine : Bool) (es : List Own) (o : Own) → (solo_step (solo es) o).ask.profile ≡ (solo es).ask.profile → (solo (adds mine es o)).ask.profile ≡ (solo es).ask.profile
adds-profile mine es o same = adds-keeps (λ os. (solo os).ask.profile ≡ (solo es).ask.profile) mine es o refl (λ joins. ap (λ (s : SoloMachine). s.ask.profile) (solo-push es o) ∙ same)

volume-profile : (v : ℕ) (es : List Own) → (solo (adds_volume v es)).ask.profile ≡ (solo es).ask.profile
volume-profile v es = adds_volume-keeps (λ os. (solo os).ask.profile ≡ (solo es).ask.profile) v es refl (ap (λ (s : SoloMachine). s.ask.profile) (solo-push es (Volume v)))

-- its job asks for the profile that it asked for
event-profile : (w : ℕ) (past : List Event) (e : Event) (worker : ℕ) (l : LeaseOut) → IsOutStill w past e worker l → (solo (own_step l.key (own l.key past) e)).ask.profile ≡ (solo (own l.key past)).ask.profile
event-profile w past (Open k ask) worker l is =
    ap (λ (b : Bool). (solo (adds b (own l.key past) (Opened ask))).ask.profile) (opened-other w past k ask worker l is)
event-profile w past (Revise k number r) worker l is = adds-profile (is_key l.key k) (own l.key past) (Revised r) (ap (λ (a : Terms). a.profile) (revise-keeps (solo (own l.key past)) r).ask)
event-profile w past (Reask k weight) worker l is = adds-profile (is_key l.key k) (own l.key past) (Reasked weight) refl
event-profile w past (Close k) worker l is = adds-profile (is_key l.key k) (own l.key past) Closed refl
event-profile w past (Balance shares) worker l is = volume-profile (volume_in l.key shares) (own l.key past)
event-profile w past (Start k index v) worker l is = adds-profile (is_key l.key k) (own l.key past) (Started index) refl
event-profile w past (Finish k index v o) worker l is = adds-profile (is_key l.key k) (own l.key past) (Finished index o) (ap (λ (a : Terms). a.profile) (finish-keeps (solo (own l.key past)) index o).ask)
event-profile w past (Exchange k) worker l is = adds-profile (is_key l.key k) (own l.key past) Exchanged refl
event-profile w past (Leave k) worker l is = leave-keeps (λ os. (solo os).ask.profile ≡ (solo (own l.key past)).ask.profile) (is_key l.key k) (own l.key past) refl (volume-profile 0 (own l.key past))
event-profile w past (Arrive k brought) worker l is = ap (λ (b : Bool). (solo (cond b brought (own l.key past))).ask.profile) (arrive-other w past k brought worker l is)

-- its job keeps its number
number-keeps : (w : ℕ) (past : List Event) (e : Event) (worker : ℕ) (l : LeaseOut) → IsOutStill w past e worker l → job_number l.key (past ++ e ∷ []) ≡ job_number l.key past
number-keeps w past (Open k ask) worker l is = number-other l.key k past (Open k ask) (open-comes k ask) (opened-other w past k ask worker l is)
number-keeps w past (Revise k number r) worker l is = number-stays l.key past (Revise k number r) (record { steps = λ j n. refl; counts = λ n. refl })
number-keeps w past (Reask k weight) worker l is = number-stays l.key past (Reask k weight) (record { steps = λ j n. refl; counts = λ n. refl })
number-keeps w past (Close k) worker l is = number-stays l.key past (Close k) (record { steps = λ j n. refl; counts = λ n. refl })
number-keeps w past (Balance shares) worker l is = number-stays l.key past (Balance shares) (record { steps = λ j n. refl; counts = λ n. refl })
number-keeps w past (Start k index v) worker l is = number-stays l.key past (Start k index v) (record { steps = λ j n. refl; counts = λ n. refl })
number-keeps w past (Finish k index v o) worker l is = number-stays l.key past (Finish k index v o) (record { steps = λ j n. refl; counts = λ n. refl })
number-keeps w past (Exchange k) worker l is = number-stays l.key past (Exchange k) (record { steps = λ j n. refl; counts = λ n. refl })
number-keeps w past (Leave k) worker l is = number-stays l.key past (Leave k) (record { steps = λ j n. refl; counts = λ n. refl })
number-keeps w past (Arrive k brought) worker l is = number-other l.key k past (Arrive k brought) (arrive-comes k brought) (arrive-other w past k brought worker l is)

-- its worker has no later start
starts-stay : (w : ℕ) (past : List Event) (e : Event) (worker : ℕ) (l : LeaseOut) → IsOutStill w past e worker l → start_number worker (past ++ e ∷ []) ≡ start_number worker past
starts-stay w past (Open k ask) worker l is = ap (λ (n : Numbered). n.last) (numbered-push worker past (Open k ask))
starts-stay w past (Revise k number r) worker l is = ap (λ (n : Numbered). n.last) (numbered-push worker past (Revise k number r))
starts-stay w past (Reask k weight) worker l is = ap (λ (n : Numbered). n.last) (numbered-push worker past (Reask k weight))
starts-stay w past (Close k) worker l is = ap (λ (n : Numbered). n.last) (numbered-push worker past (Close k))
starts-stay w past (Balance shares) worker l is = ap (λ (n : Numbered). n.last) (numbered-push worker past (Balance shares))
starts-stay w past (Start k index v) worker l is =
    ap (λ (n : Numbered). n.last) (numbered-push worker past (Start k index v))
    ∙ ap (λ (b : Bool). cond b ((numbered worker past).all + 1) (numbered worker past).last) (false_from_ne_true (v == worker) other)
  where
    other : (v == worker) ≡ true → ⊥
    other e =
        let none : lease_of worker (leases past) ≡ None = subst (λ (n : ℕ). lease_of n (leases past) ≡ None) ((Decides-eqb v worker).0 e) is.allowed.1.idle in
        let both : None ≡ Some l = sym none ∙ is.out in
        cc
starts-stay w past (Finish k index v o) worker l is = ap (λ (n : Numbered). n.last) (numbered-push worker past (Finish k index v o))
starts-stay w past (Exchange k) worker l is = ap (λ (n : Numbered). n.last) (numbered-push worker past (Exchange k))
starts-stay w past (Leave k) worker l is = ap (λ (n : Numbered). n.last) (numbered-push worker past (Leave k))
starts-stay w past (Arrive k brought) worker l is = ap (λ (n : Numbered). n.last) (numbered-push worker past (Arrive k brought))

-- a lease from these parts
abbrev handed_by : LeaseOut → ℕ → Profile → ℕ → Left → Handed
handed_by l job profile start p = record { journal = record { job = job; profile = profile; index = l.index; start = start; entries = p.entries }; adds = option_map_or (λ o. o.adds) p.out []; worker = l.worker }

-- a lease that stays out is as it was handed out
handed-stays : (w : ℕ) (past : List Event) (e : Event) (worker : ℕ) (l : LeaseOut) → IsOutStill w past e worker l → handed (past ++ e ∷ []) l ≡ handed past l
handed-stays w past e worker l is =
    let now : List Event = past ++ e ∷ [] in
    let same : l.worker ≡ worker = mine-is w past e worker l is in
    let start : start_number l.worker now ≡ start_number l.worker past = subst (λ (v : ℕ). start_number v now ≡ start_number v past) (sym same) (starts-stay w past e worker l is) in
    let left : left_at (solo (own l.key now)) l.index ≡ left_at (solo (own l.key past)) l.index = ap (λ (es : List Own). left_at (solo es) l.index) (own-push l.key past e) ∙ event-left w past e worker l is in
    let profile : (solo (own l.key now)).ask.profile ≡ (solo (own l.key past)).ask.profile = ap (λ (es : List Own). (solo es).ask.profile) (own-push l.key past e) ∙ event-profile w past e worker l is in
    ap (λ (n : ℕ). handed_by l n (solo (own l.key now)).ask.profile (start_number l.worker now) (left_at (solo (own l.key now)) l.index)) (number-keeps w past e worker l is)
    ∙ (ap (λ (p : Profile). handed_by l (job_number l.key past) p (start_number l.worker now) (left_at (solo (own l.key now)) l.index)) profile
    ∙ (ap (λ (n : ℕ). handed_by l (job_number l.key past) (solo (own l.key past)).ask.profile n (left_at (solo (own l.key now)) l.index)) start
    ∙ ap (λ (p : Left). handed_by l (job_number l.key past) (solo (own l.key past)).ask.profile (start_number l.worker past) p) left))

-- what a worker has stays where its lease does
pub lease-stays : (w : ℕ) (past : List Event) (e : Event) (worker : ℕ) → 1 ≤ w → w ≤ 64 → Legal w past → Allowed w past e → lease_of worker (leases (past ++ e ∷ [])) ≡ lease_of worker (leases past) → option_map (handed (past ++ e ∷ [])) (lease_of worker (leases (past ++ e ∷ []))) ≡ option_map (handed past) (lease_of worker (leases past))
lease-stays w past e worker some bound legal allowed same = by_lease (lease_of worker (leases past)) refl
  where
    now : List Event
    now = past ++ e ∷ []

    by_lease : (o : Option LeaseOut) → lease_of worker (leases past) ≡ o → option_map (handed now) (lease_of worker (leases now)) ≡ option_map (handed past) (lease_of worker (leases past))
    by_lease None q = ap (option_map (handed now)) (same ∙ q) ∙ sym (ap (option_map (handed past)) q)
    by_lease (Some l) q =
        let is : IsOutStill w past e worker l = record { some = some; bound = bound; legal = legal; allowed = allowed; out = q; still = same ∙ q } in
        ap (option_map (handed now)) (same ∙ q) ∙ (ap Some (handed-stays w past e worker l is) ∙ sym (ap (option_map (handed past)) q))
