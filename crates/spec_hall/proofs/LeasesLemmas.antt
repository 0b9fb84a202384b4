-- In a legal history the leases that are out are of workers that differ, of nodes that differ, and of the places that
-- are out.
use Rattle.std.proofs.Common.{◌≡◌, ℕ, zero, suc, ◌+◌, ◌<◌, ◌≤◌, Bool, true, false, cond, not, ◌&&◌, ◌||◌, ◌==◌, nat_lt, List, [], ◌∷◌, ◌++◌, filter, find, get_or, length, slice_get, Option, Some, None, is_some, is_none, refl, sym, ◌∙◌, ap, subst, arith}
use Rattle.std.specs.Prelude.{All}
use Rattle.std.specs.Option.{option_or}
use Rattle.std.specs.List.{list_any}
use Rattle.std.proofs.lemmas.Bool.{and_from, and_parts, both_ways}
use Rattle.std.proofs.lemmas.Bool.Decides.{Decides-eqb, Decides-ltb}
use Rattle.std.proofs.lemmas.List.Elements.{All-nil, All-filter, All-head, All-push, All-tail}
use Rattle.std.proofs.lemmas.List.Folds.{find-append}
use Rattle.std.proofs.lemmas.List.Sums.{sum_by-cons}
use Rattle.mal_base.specs.declared.verdict.Outcome.{Outcome}
use Rattle.spec_job.specs.Counts.{starts_out}
use Rattle.spec_job.specs.SoloMachine.{Own, Opened, Revised, Reasked, Closed, Volume, Started, Finished, Exchanged, SoloMachine, NodeSlot, Lease, vacant, is_live, out_count, place_at, solo, solo_step, startable}
use Rattle.spec_job.specs.KeyedJob.{Key, KeyedJob}
use Rattle.spec_job.proofs.LeftLemmas.{solo-tidy}
use Rattle.spec_job.proofs.PlacesLemmas.{get-vacant}
use Rattle.spec_hall.specs.Events.{Event, Open, Revise, Reask, Close, Balance, Start, Finish, Exchange, Leave, Arrive}
use Rattle.spec_hall.specs.Own.{own, own_step, adds, adds_volume, is_key, volume_in}
use Rattle.spec_hall.specs.States.{Candidate, LeaseOut, keys_of, states, titled, lives, leases, leases_step, lease_of}
use Rattle.spec_hall.specs.Legal.{Allowed, Legal, MayArrive, MayStart}
use Rattle.spec_hall.specs.Leases.{AreApart, AreLeases, IsWorker, LegalLeases, is_of, lease_at}
use Rattle.spec_hall.specs.Seats.{Seat}
use Rattle.spec_hall.proofs.SeatLemmas.{seated-none, sits-at}
use Rattle.spec_hall.proofs.IdleLemmas.{seated-volumes}
use Rattle.spec_hall.proofs.SeatedLemmas.{HasSeats, SeatOf, event-seats, legal-seats, opened-seat}
use Rattle.spec_hall.proofs.KeyLemmas.{is_key-Decides, is_key-same, key-stands}
use Rattle.spec_hall.proofs.PushLemmas.{own-push, solo-push, leases-push, adds-keeps, adds_volume-keeps}
use Rattle.spec_hall.proofs.OrderlyLemmas.{HasOpened, IsOrderly, legal-orderly, was_opened}
use Rattle.spec_hall.proofs.StatesLemmas.{job_of-absent, legal_from-keeps}
use Rattle.spec_hall.proofs.RunnableLemmas.{picked-may}
use Rattle.spec_hall.proofs.OutLemmas.{is_out, revised-out, exchanged-out, started-out, finished-out}

-- one lease of a node
abbrev node_is : Key → ℕ → Key → ℕ → Bool
node_is j n k i = is_key j k && n == i

-- a test of an option
or-some : {X : Type 0} (a b : Option X) → is_some (option_or a b) ≡ (is_some a || is_some b)
or-some None b = refl
or-some (Some x) b = refl

one-found : {X : Type 0} (test : X → Bool) (x : X) → is_some (find test (x ∷ [])) ≡ test x
one-found test x = by_test (test x)
  where
    by_test : (b : Bool) → is_some (cond b (Some x) None) ≡ b
    by_test true = refl
    by_test false = refl

push-found : {X : Type 0} (test : X → Bool) (xs : List X) (x : X) → is_some (find test (xs ++ x ∷ [])) ≡ (is_some (find test xs) || test x)
push-found test xs x = ap (λ (o : Option _). is_some o) (find-append test xs (x ∷ [])) ∙ (or-some (find test xs) (find test (x ∷ [])) ∙ ap (λ (b : Bool). is_some (find test xs) || b) (one-found test x))

none-some : {X : Type 0} (o : Option X) → is_some o ≡ false → o ≡ None
none-some None e = refl
none-some (Some x) e = absurd (cc)

-- the lease of another worker stays when one comes back
pub others : (a b : ℕ) → (nat_lt a b || nat_lt b a) ≡ not (a == b)
others a b = by_test (a == b) refl (nat_lt a b) refl (nat_lt b a) refl
  where
    by_test : (e : Bool) → (a == b) ≡ e → (l : Bool) → nat_lt a b ≡ l → (m : Bool) → nat_lt b a ≡ m → (l || m) ≡ not e
    by_test true p true q m r = let s : a ≡ b = (Decides-eqb a b).0 p in let t : a < b = (Decides-ltb a b).0 q in absurd (omega (arith, s, t))
    by_test true p false q true r = let s : a ≡ b = (Decides-eqb a b).0 p in let t : b < a = (Decides-ltb b a).0 r in absurd (omega (arith, s, t))
    by_test true p false q false r = refl
    by_test false p true q m r = refl
    by_test false p false q true r = refl
    by_test false p false q false r = both (λ s. both_ways (a == b) p ((Decides-eqb a b).1 s)) (λ s. both_ways (nat_lt a b) q ((Decides-ltb a b).1 s)) (λ s. both_ways (nat_lt b a) r ((Decides-ltb b a).1 s))
      where
        both : (a ≡ b → ⊥) → (a < b → ⊥) → (b < a → ⊥) → false ≡ true
        both x y z = absurd (omega (arith, x, y, z))

-- the leases without that of a worker
abbrev pub without : ℕ → List LeaseOut → List LeaseOut
without worker ls = filter (λ (l : LeaseOut). nat_lt l.worker worker || nat_lt worker l.worker) ls

-- where a worker has none they all stay
pub without-none : (worker : ℕ) (ls : List LeaseOut) → lease_of worker ls ≡ None → without worker ls ≡ ls
without-none worker [] e = refl
without-none worker (l ∷ ls) e = by_test (l.worker == worker) (nat_lt l.worker worker || nat_lt worker l.worker) (others l.worker worker) e (without-none worker ls)
  where
    by_test : (b c : Bool) → c ≡ not b → cond b (Some l) (lease_of worker ls) ≡ None → (lease_of worker ls ≡ None → without worker ls ≡ ls) → cond c (l ∷ without worker ls) (without worker ls) ≡ l ∷ ls
    by_test true c e q rest = absurd (cc)
    by_test false true e q rest = ap (λ (xs : List LeaseOut). l ∷ xs) (rest q)
    by_test false false e q rest = absurd (cc)

-- a lease that is found is there
found-there : (test : LeaseOut → Bool) (worker : ℕ) (ls : List LeaseOut) (l : LeaseOut) → lease_of worker ls ≡ Some l → test l ≡ true → is_some (find test ls) ≡ true
found-there test worker [] l e t = absurd (cc)
found-there test worker (x ∷ xs) l e t = by_test (x.worker == worker) e (found-there test worker xs l)
  where
    some : (b : Bool) (o : Option LeaseOut) → is_some o ≡ true → is_some (cond b (Some x) o) ≡ true
    some true o q = refl
    some false o q = q

    by_test : (b : Bool) → cond b (Some x) (lease_of worker xs) ≡ Some l → (lease_of worker xs ≡ Some l → test l ≡ true → is_some (find test xs) ≡ true) → is_some (find test (x ∷ xs)) ≡ true
    by_test true q rest = let same : x ≡ l = cc in let here : test x ≡ true = ap test same ∙ t in ap (λ (c : Bool). is_some (cond c (Some x) (find test xs))) here
    by_test false q rest = some (test x) (find test xs) (rest q t)

-- two leases of one node
same-node : (j : Key) (n : ℕ) (a b : LeaseOut) → is_of j n a ≡ true → is_of j n b ≡ true → is_of a.key a.index b ≡ true
same-node j n a b one other =
    let first = and_parts (is_key j a.key) (n == a.index) one in
    let key : j ≡ a.key = (is_key-Decides j a.key).0 first.0 in
    let index : n ≡ a.index = (Decides-eqb n a.index).0 first.1 in
    subst (λ (m : ℕ). is_of a.key m b ≡ true) index (subst (λ (k : Key). is_of k n b ≡ true) key other)

-- a lease of one node is a lease of the same node
node-again : (j : Key) (n : ℕ) (x : LeaseOut) (ys : List LeaseOut) → is_of j n x ≡ true → is_some (lease_at j n ys) ≡ true → is_some (lease_at x.key x.index ys) ≡ true
node-again j n x [] p r = absurd (cc)
node-again j n x (y ∷ ys) p r = by_node (is_of j n y) refl (is_of x.key x.index y) refl r (node-again j n x ys p)
  where
    by_node : (b : Bool) → is_of j n y ≡ b → (c : Bool) → is_of x.key x.index y ≡ c → is_some (cond b (Some y) (lease_at j n ys)) ≡ true → (is_some (lease_at j n ys) ≡ true → is_some (lease_at x.key x.index ys) ≡ true) → is_some (cond c (Some y) (lease_at x.key x.index ys)) ≡ true
    by_node b s true t u rest = refl
    by_node true s false t u rest = absurd (both_ways (is_of x.key x.index y) t (same-node j n x y p s))
    by_node false s false t u rest = rest u

none-there : (o : Option LeaseOut) → (is_some o ≡ true → ⊥) → is_some o ≡ false
none-there None f = refl
none-there (Some l) f = absurd (f refl)

-- of which node there is a lease when one comes back
without-found : (worker : ℕ) (ls : List LeaseOut) (l : LeaseOut) (j : Key) (n : ℕ) → AreApart ls → lease_of worker ls ≡ Some l → is_some (lease_at j n (without worker ls)) ≡ (is_some (lease_at j n ls) && not (is_of j n l))
without-found worker [] l j n apart e = absurd (cc)
without-found worker (x ∷ xs) l j n apart e = by_test (x.worker == worker) refl (nat_lt x.worker worker || nat_lt worker x.worker) (others x.worker worker) e (without-found worker xs l j n apart.2)
  where
    and-true : (b : Bool) → b ≡ (b && true)
    and-true true = refl
    and-true false = refl

    gone : (c d : Bool) → is_of j n x ≡ c → is_of j n l ≡ d → x ≡ l → is_some (lease_at j n xs) ≡ (is_some (cond c (Some x) (lease_at j n xs)) && not d)
    gone true true p q same = none-there (lease_at j n xs) (λ r. both_ways (is_some (lease_at x.key x.index xs)) (ap (λ (o : Option LeaseOut). is_some o) apart.1) (node-again j n x xs p r))
    gone true false p q same = absurd (both_ways (is_of j n l) q (ap (is_of j n) (sym same) ∙ p))
    gone false true p q same = absurd (both_ways (is_of j n x) p (ap (is_of j n) same ∙ q))
    gone false false p q same = and-true (is_some (lease_at j n xs))

    kept : (c d : Bool) → is_of j n x ≡ c → is_of j n l ≡ d → lease_of worker xs ≡ Some l → is_some (lease_at j n (without worker xs)) ≡ (is_some (lease_at j n xs) && not (is_of j n l)) → is_some (cond c (Some x) (lease_at j n (without worker xs))) ≡ (is_some (cond c (Some x) (lease_at j n xs)) && not d)
    kept true true p q found rest = absurd (both_ways (is_some (lease_at x.key x.index xs)) (ap (λ (o : Option LeaseOut). is_some o) apart.1) (found-there (is_of x.key x.index) worker xs l found (same-node j n x l p q)))
    kept true false p q found rest = refl
    kept false d p q found rest = rest ∙ ap (λ (b : Bool). is_some (lease_at j n xs) && not b) q

    by_test : (b : Bool) → (x.worker == worker) ≡ b → (c : Bool) → c ≡ not b → cond b (Some x) (lease_of worker xs) ≡ Some l → (lease_of worker xs ≡ Some l → is_some (lease_at j n (without worker xs)) ≡ (is_some (lease_at j n xs) && not (is_of j n l))) → is_some (lease_at j n (cond c (x ∷ without worker xs) (without worker xs))) ≡ (is_some (lease_at j n (x ∷ xs)) && not (is_of j n l))
    by_test true p true q f rest = absurd (cc)
    by_test true p false q f rest =
        let same : x ≡ l = cc in
        let worker_is : x.worker ≡ worker = (Decides-eqb x.worker worker).0 p in
        let none : lease_of worker xs ≡ None = subst (λ (m : ℕ). lease_of m xs ≡ None) worker_is apart.0 in
        ap (λ (ys : List LeaseOut). is_some (lease_at j n ys)) (without-none worker xs none) ∙ gone (is_of j n x) (is_of j n l) refl refl same
    by_test false p true q f rest = kept (is_of j n x) (is_of j n l) refl refl f (rest f)
    by_test false p false q f rest = absurd (cc)

-- fewer leases are apart too
filter-none : (test keep : LeaseOut → Bool) (ls : List LeaseOut) → find test ls ≡ None → find test (filter keep ls) ≡ None
filter-none test keep [] e = refl
filter-none test keep (x ∷ xs) e = by_test (test x) refl (keep x) e (filter-none test keep xs)
  where
    by_test : (b : Bool) → test x ≡ b → (c : Bool) → cond b (Some x) (find test xs) ≡ None → (find test xs ≡ None → find test (filter keep xs) ≡ None) → find test (cond c (x ∷ filter keep xs) (filter keep xs)) ≡ None
    by_test true p c q rest = absurd (cc)
    by_test false p true q rest = ap (λ (b : Bool). cond b (Some x) (find test (filter keep xs))) p ∙ rest q
    by_test false p false q rest = rest q

filter-apart : (keep : LeaseOut → Bool) (ls : List LeaseOut) → AreApart ls → AreApart (filter keep ls)
filter-apart keep [] apart = tt
filter-apart keep (x ∷ xs) apart = by_test (keep x) (filter-apart keep xs apart.2)
  where
    by_test : (c : Bool) → AreApart (filter keep xs) → AreApart (cond c (x ∷ filter keep xs) (filter keep xs))
    by_test true rest = (filter-none (λ (l : LeaseOut). l.worker == x.worker) keep xs apart.0, filter-none (is_of x.key x.index) keep xs apart.1, rest)
    by_test false rest = rest

-- and so is one more of another worker and another node
eqb-back : (a b : ℕ) → (a == b) ≡ false → (b == a) ≡ false
eqb-back a b e = by_test (b == a) refl
  where
    by_test : (c : Bool) → (b == a) ≡ c → c ≡ false
    by_test true q = absurd (both_ways (a == b) e ((Decides-eqb a b).1 (sym ((Decides-eqb b a).0 q))))
    by_test false q = refl

push-none : (test : LeaseOut → Bool) (ls : List LeaseOut) (l : LeaseOut) → find test ls ≡ None → test l ≡ false → find test (ls ++ l ∷ []) ≡ None
push-none test ls l e f = none-some (find test (ls ++ l ∷ [])) (push-found test ls l ∙ (ap (λ (o : Option LeaseOut). is_some o || test l) e ∙ f))

push-apart : (ls : List LeaseOut) (l : LeaseOut) → AreApart ls → lease_of l.worker ls ≡ None → lease_at l.key l.index ls ≡ None → AreApart (ls ++ l ∷ [])
push-apart [] l apart worker node = (refl, refl, tt)
push-apart (x ∷ xs) l apart worker node = by_worker (x.worker == l.worker) refl worker (is_of l.key l.index x) refl node (push-apart xs l apart.2)
  where
    by_back : (b : Bool) → is_of x.key x.index l ≡ b → is_of l.key l.index x ≡ false → b ≡ false
    by_back false p q = refl
    by_back true p q =
        let parts = and_parts (is_key x.key l.key) (x.index == l.index) p in
        let key : x.key ≡ l.key = (is_key-Decides x.key l.key).0 parts.0 in
        let index : x.index ≡ l.index = (Decides-eqb x.index l.index).0 parts.1 in
        let one : is_key l.key x.key ≡ true = (is_key-Decides l.key x.key).1 (sym key) in
        let two : (l.index == x.index) ≡ true = (Decides-eqb l.index x.index).1 (sym index) in
        absurd (both_ways (is_of l.key l.index x) q (ap (λ (b : Bool). b && l.index == x.index) one ∙ two))

    by_worker : (b : Bool) → (x.worker == l.worker) ≡ b → cond b (Some x) (lease_of l.worker xs) ≡ None → (c : Bool) → is_of l.key l.index x ≡ c → cond c (Some x) (lease_at l.key l.index xs) ≡ None → (lease_of l.worker xs ≡ None → lease_at l.key l.index xs ≡ None → AreApart (xs ++ l ∷ [])) → AreApart ((x ∷ xs) ++ l ∷ [])
    by_worker true p q c r s rest = absurd (cc)
    by_worker false p q true r s rest = absurd (cc)
    by_worker false p q false r s rest = (
      push-none (λ (y : LeaseOut). y.worker == x.worker) xs l apart.0 (eqb-back x.worker l.worker p),
      push-none (is_of x.key x.index) xs l apart.1 (by_back (is_of x.key x.index l) refl r),
      rest q s,
    )

-- an event that leaves each job's places leaves the leases
adds-out : (mine : Bool) (es : List Own) (o : Own) (i : ℕ) → ((s : SoloMachine) → is_out (solo_step s o) i ≡ is_out s i) → is_out (solo (adds mine es o)) i ≡ is_out (solo es) i
adds-out mine es o i same = adds-keeps (λ os. is_out (solo os) i ≡ is_out (solo es) i) mine es o refl (λ joins. ap (λ (s : SoloMachine). is_out s i) (solo-push es o) ∙ same (solo es))

adds_volume-out : (v : ℕ) (es : List Own) (i : ℕ) → is_out (solo (adds_volume v es)) i ≡ is_out (solo es) i
adds_volume-out v es i = adds_volume-keeps (λ os. is_out (solo os) i ≡ is_out (solo es) i) v es refl (ap (λ (s : SoloMachine). is_out s i) (solo-push es (Volume v)))

same-leases : (w : ℕ) (past : List Event) (e : Event) → leases_step (leases past) e ≡ leases past → ((k : Key) (i : ℕ) → is_out (solo (own_step k (own k past) e)) i ≡ is_out (solo (own k past)) i) → AreLeases w past → AreLeases w (past ++ e ∷ [])
same-leases w past e same outs are =
    let now : leases (past ++ e ∷ []) ≡ leases past = leases-push past e ∙ same in
    record {
      of_workers = subst (All (λ (l : LeaseOut). IsWorker w l.worker)) (sym now) are.of_workers;
      apart = subst AreApart (sym now) are.apart;
      nodes = λ k i. ap (λ (es : List Own). is_out (solo es) i) (own-push k past e) ∙ (outs k i ∙ (are.nodes k i ∙ ap (λ (ls : List LeaseOut). is_some (lease_at k i ls)) (sym now)));
    }

pub within-out : (ps : List NodeSlot) (i : ℕ) → is_some (get_or ps i vacant).out ≡ true → i < length ps
within-out [] i e = absurd (cc)
within-out (p ∷ ps) zero e = omega arith
within-out (p ∷ ps) (suc i) e = let u : i < length ps = within-out ps i e in omega arith

-- what holds of all holds at a place
pub All-at : {X : Type 0} (P : X → Type 0) (xs : List X) (n : ℕ) (x : X) → All P xs → slice_get xs n ≡ Some x → P x
All-at P [] n x h e = absurd (cc)
All-at P (y ∷ ys) zero x h e = let same : y ≡ x = cc in subst P same (All-head P y ys h)
All-at P (y ∷ ys) (suc n) x h e = All-at P ys n x (All-tail P y ys h) e

-- a node that starts is below the number of places, and at home
record MayGo (s : SoloMachine) (i : ℕ) : Type 0 where
  low : i < length s.places
  home : is_out s i ≡ false

start-leaves : (w : ℕ) (past : List Event) (k : Key) (i worker : ℕ) (choice : Candidate) → w ≤ 64 → HasSeats w past → MayStart w past k i worker choice → MayGo (solo (own k past)) i
start-leaves w past k i worker choice bound has may = record { low = omega (arith, below, most, count); home = at_home (place_at s i).out parts.1 }
  where
    s : SoloMachine
    s = solo (own k past)

    opened : list_any (is_key k) (keys_of past) ≡ true
    opened = key-stands (keys_of past) choice.job k may.key

    found : SeatOf has.seats k
    found = opened-seat w past has.seats k has.are opened

    machine : titled past k ≡ found.seat.job.titled
    machine = subst (λ (x : Key). titled past x ≡ found.seat.job.titled) found.key (sits-at past has.seats found.at found.seat has.are.jobs found.is).machine

    startable_is : startable s i ≡ true
    startable_is = picked-may w past k i worker choice may

    parts : ((is_live s && nat_lt i s.volume) ≡ true) × ((is_none (place_at s i).out && nat_lt (s.spent + out_count s) s.ask.slices) ≡ true)
    parts = and_parts (is_live s && nat_lt i s.volume) (is_none (place_at s i).out && nat_lt (s.spent + out_count s) s.ask.slices) startable_is

    below : i < s.volume
    below = (Decides-ltb i s.volume).0 (and_parts (is_live s) (nat_lt i s.volume) parts.0).1

    most : s.volume ≤ w
    most = subst (λ (t : KeyedJob). t.state.volume ≤ w) (sym machine) (All-at (λ (x : Seat). x.job.titled.state.volume ≤ w) has.seats found.at found.seat (seated-volumes w past has.seats (lives (states past)) has.are (sym may.balance)) found.is)

    count : length s.places ≡ 64
    count = (solo-tidy (own k past)).places.count

    at_home : (o : Option Lease) → (is_none o && nat_lt (s.spent + out_count s) s.ask.slices) ≡ true → is_some o ≡ false
    at_home None e = refl
    at_home (Some l) e = absurd (cc)

-- a start
start-leases : (w : ℕ) (past : List Event) (k : Key) (i worker : ℕ) (choice : Candidate) → w ≤ 64 → HasSeats w past → MayStart w past k i worker choice → AreLeases w past → AreLeases w (past ++ Start k i worker ∷ [])
start-leases w past k i worker choice bound has may are = record {
  of_workers = subst (All (λ (l : LeaseOut). IsWorker w l.worker)) (sym now) (All-push (λ (l : LeaseOut). IsWorker w l.worker) (leases past) l are.of_workers (record { low = may.some_worker; high = may.worker_bound }));
  apart = subst AreApart (sym now) (push-apart (leases past) l are.apart may.idle node);
  nodes = λ j n. ap (λ (es : List Own). is_out (solo es) n) (own-push j past (Start k i worker)) ∙ (outs j n (is_key j k) refl ∙ (ap (λ (b : Bool). b || (is_key j k && n == i)) (are.nodes j n) ∙ (sym (push-found (is_of j n) (leases past) l) ∙ ap (λ (ls : List LeaseOut). is_some (lease_at j n ls)) (sym now))));
}
  where
    l : LeaseOut
    l = record { worker = worker; key = k; index = i }

    leave : MayGo (solo (own k past)) i
    leave = start-leaves w past k i worker choice bound has may

    now : leases (past ++ Start k i worker ∷ []) ≡ leases past ++ l ∷ []
    now = leases-push past (Start k i worker)

    node : lease_at k i (leases past) ≡ None
    node = none-some (lease_at k i (leases past)) (sym (are.nodes k i) ∙ leave.home)

    or-false : (b : Bool) → b ≡ (b || false)
    or-false true = refl
    or-false false = refl

    outs : (j : Key) (n : ℕ) (b : Bool) → is_key j k ≡ b → is_out (solo (adds b (own j past) (Started i))) n ≡ (is_out (solo (own j past)) n || (b && n == i))
    outs j n true e =
        let low : i < length (solo (own j past)).places = subst (λ (x : Key). i < length (solo (own x past)).places) (sym ((is_key-Decides j k).0 e)) leave.low in
        ap (λ (s : SoloMachine). is_out s n) (solo-push (own j past) (Started i)) ∙ started-out (solo (own j past)) i n low
    outs j n false e = or-false (is_out (solo (own j past)) n)

-- a finish
finish-leases : (w : ℕ) (past : List Event) (k : Key) (i worker : ℕ) (outcome : Outcome) → lease_of worker (leases past) ≡ Some (record { worker = worker; key = k; index = i }) → AreLeases w past → AreLeases w (past ++ Finish k i worker outcome ∷ [])
finish-leases w past k i worker outcome may are = record {
  of_workers = subst (All (λ (x : LeaseOut). IsWorker w x.worker)) (sym now) (All-filter (λ (x : LeaseOut). nat_lt x.worker worker || nat_lt worker x.worker) (λ (x : LeaseOut). IsWorker w x.worker) (leases past) are.of_workers);
  apart = subst AreApart (sym now) (filter-apart (λ (x : LeaseOut). nat_lt x.worker worker || nat_lt worker x.worker) (leases past) are.apart);
  nodes = λ j n. ap (λ (es : List Own). is_out (solo es) n) (own-push j past (Finish k i worker outcome)) ∙ (outs j n (is_key j k) refl ∙ (ap (λ (b : Bool). b && not (is_key j k && n == i)) (are.nodes j n) ∙ (sym (without-found worker (leases past) l j n are.apart may) ∙ ap (λ (ls : List LeaseOut). is_some (lease_at j n ls)) (sym now))));
}
  where
    l : LeaseOut
    l = record { worker = worker; key = k; index = i }

    now : leases (past ++ Finish k i worker outcome ∷ []) ≡ without worker (leases past)
    now = leases-push past (Finish k i worker outcome)

    mine : is_of k i l ≡ true
    mine = and_from (is_key k k) (i == i) (is_key-same k) ((Decides-eqb i i).1 refl)

    out : is_out (solo (own k past)) i ≡ true
    out = are.nodes k i ∙ found-there (is_of k i) worker (leases past) l may mine

    and-true : (b : Bool) → b ≡ (b && true)
    and-true true = refl
    and-true false = refl

    outs : (j : Key) (n : ℕ) (b : Bool) → is_key j k ≡ b → is_out (solo (adds b (own j past) (Finished i outcome))) n ≡ (is_out (solo (own j past)) n && not (b && n == i))
    outs j n true e =
        let there : is_out (solo (own j past)) i ≡ true = subst (λ (x : Key). is_out (solo (own x past)) i ≡ true) (sym ((is_key-Decides j k).0 e)) out in
        ap (λ (s : SoloMachine). is_out s n) (solo-push (own j past) (Finished i outcome)) ∙ finished-out (solo (own j past)) i n outcome there (within-out (solo (own j past)).places i there)
    outs j n false e = and-true (is_out (solo (own j past)) n)

-- a leave takes no more than the volume
leave-out : (mine : Bool) (es : List Own) (i : ℕ) → is_out (solo (cond mine (adds_volume 0 es) es)) i ≡ is_out (solo es) i
leave-out true es i = adds_volume-out 0 es i
leave-out false es i = refl

-- what arrives has nothing out
home-cons : (p : NodeSlot) (ps : List NodeSlot) → starts_out (p ∷ ps) ≡ 0 → (is_some p.out ≡ false) × (starts_out ps ≡ 0)
home-cons p ps e = by_test (is_some p.out) (sym (sum_by-cons (λ (q : NodeSlot). cond (is_some q.out) 1 0) p ps) ∙ e)
  where
    by_test : (b : Bool) → cond b 1 0 + starts_out ps ≡ 0 → (b ≡ false) × (starts_out ps ≡ 0)
    by_test true q = absurd (omega (arith, q))
    by_test false q = (refl, omega (arith, q))

none-home : (ps : List NodeSlot) (i : ℕ) → starts_out ps ≡ 0 → is_some (get_or ps i vacant).out ≡ false
none-home [] i e = refl
none-home (p ∷ ps) zero e = (home-cons p ps e).0
none-home (p ∷ ps) (suc i) e = none-home ps i (home-cons p ps e).1

-- and no lease is of a job that is not there
none-at : (past : List Event) (k : Key) (i : ℕ) (ls : List LeaseOut) → was_opened past k ≡ false → All (HasOpened past) ls → is_some (lease_at k i ls) ≡ false
none-at past k i [] absent h = refl
none-at past k i (l ∷ ls) absent h = by_test (is_key k l.key) refl (none-at past k i ls absent (All-tail (HasOpened past) l ls h))
  where
    by_test : (b : Bool) → is_key k l.key ≡ b → is_some (lease_at k i ls) ≡ false → is_some (cond (b && i == l.index) (Some l) (lease_at k i ls)) ≡ false
    by_test true q rest = absurd (both_ways (was_opened past k) absent (subst (λ (x : Key). was_opened past x ≡ true) (sym ((is_key-Decides k l.key).0 q)) (All-head (HasOpened past) l ls h)))
    by_test false q rest = rest

arrive-out : (w : ℕ) (past : List Event) (k : Key) (brought : List Own) → MayArrive past k brought → HasSeats w past → AreLeases w past → (j : Key) (i : ℕ) → is_out (solo (own_step j (own j past) (Arrive k brought))) i ≡ is_out (solo (own j past)) i
arrive-out w past k brought may has are j i = by_test (is_key j k) refl
  where
    orderly : IsOrderly past
    orderly = legal-orderly w past has.are.legal

    away : is_out (solo (own k past)) i ≡ false
    away = are.nodes k i ∙ none-at past k i (leases past) (job_of-absent past k may.absent) orderly.leased

    by_test : (b : Bool) → is_key j k ≡ b → is_out (solo (cond b brought (own j past))) i ≡ is_out (solo (own j past)) i
    by_test true q =
        let mine : is_out (solo (own j past)) i ≡ false = subst (λ (x : Key). is_out (solo (own x past)) i ≡ false) (sym ((is_key-Decides j k).0 q)) away in
        none-home (solo brought).places i may.home ∙ sym mine
    by_test false q = refl

event-leases : (w : ℕ) (past : List Event) (e : Event) → w ≤ 64 → Allowed w past e → HasSeats w past → AreLeases w past → AreLeases w (past ++ e ∷ [])
event-leases w past (Open k ask) bound may has are = same-leases w past (Open k ask) refl (λ j i. adds-out (is_key j k) (own j past) (Opened ask) i (λ s. refl)) are
event-leases w past (Revise k number r) bound may has are = same-leases w past (Revise k number r) refl (λ j i. adds-out (is_key j k) (own j past) (Revised r) i (λ s. revised-out s r i)) are
event-leases w past (Reask k weight) bound may has are = same-leases w past (Reask k weight) refl (λ j i. adds-out (is_key j k) (own j past) (Reasked weight) i (λ s. refl)) are
event-leases w past (Close k) bound may has are = same-leases w past (Close k) refl (λ j i. adds-out (is_key j k) (own j past) Closed i (λ s. refl)) are
event-leases w past (Balance shares) bound may has are = same-leases w past (Balance shares) refl (λ j i. adds_volume-out (volume_in j shares) (own j past) i) are
event-leases w past (Start k index worker) bound may has are = start-leases w past k index worker may.0 bound has may.1 are
event-leases w past (Finish k index worker outcome) bound may has are = finish-leases w past k index worker outcome may are
event-leases w past (Exchange k) bound may has are = same-leases w past (Exchange k) refl (λ j i. adds-out (is_key j k) (own j past) Exchanged i (λ s. exchanged-out s i)) are
event-leases w past (Leave k) bound may has are = same-leases w past (Leave k) refl (λ j i. leave-out (is_key j k) (own j past) i) are
event-leases w past (Arrive k brought) bound may has are = same-leases w past (Arrive k brought) refl (λ j i. arrive-out w past k brought may has are j i) are

-- the jobs have seats and the leases are in order
record IsOrdered (w : ℕ) (past : List Event) : Type 0 where
  seats : HasSeats w past
  are : AreLeases w past

no-leases : (w : ℕ) → AreLeases w []
no-leases w = record { of_workers = All-nil (λ (l : LeaseOut). IsWorker w l.worker); apart = tt; nodes = λ k i. ap (λ (p : NodeSlot). is_some p.out) (get-vacant 64 i) }

some-leases : (w : ℕ) (h : List Event) → 1 ≤ w → w ≤ 64 → Legal w h → AreLeases w h
some-leases w h some bound legal =
    (legal_from-keeps w (IsOrdered w) (λ past e may ordered. record { seats = event-seats w past e may ordered.seats; are = event-leases w past e bound may ordered.seats ordered.are }) [] h legal (record { seats = record { seats = []; are = seated-none w some }; are = no-leases w })).are

pub legal-leases : LegalLeases
legal-leases w h low bound legal = some-leases w h low bound legal

-- a node that starts has an index below 64, and no lease of it is out
pub record IsFree (past : List Event) (k : Key) (i : ℕ) : Type 0 where
  pub low : i ≤ 63
  pub home : (v j : ℕ) → lease_of v (leases past) ≡ Some (record { worker = v; key = k; index = j }) → j ≡ i → ⊥

pub start-free : (w : ℕ) (past : List Event) (k : Key) (i worker : ℕ) → 1 ≤ w → w ≤ 64 → Legal w past → Allowed w past (Start k i worker) → IsFree past k i
start-free w past k i worker some bound legal may =
    let leave : MayGo (solo (own k past)) i = start-leaves w past k i worker may.0 bound (legal-seats w past some legal) may.1 in
    let count : length (solo (own k past)).places ≡ 64 = (solo-tidy (own k past)).places.count in
    record { low = omega (arith, leave.low, count); home = λ v j e same. there v j e same leave.home }
  where
    there : (v j : ℕ) → lease_of v (leases past) ≡ Some (record { worker = v; key = k; index = j }) → j ≡ i → is_out (solo (own k past)) i ≡ false → ⊥
    there v j e same home =
        let mine : is_of k i (record { worker = v; key = k; index = j }) ≡ true = and_from (is_key k k) (i == j) (is_key-same k) ((Decides-eqb i j).1 (sym same)) in
        both_ways (is_out (solo (own k past)) i) home ((some-leases w past some bound legal).nodes k i ∙ found-there (is_of k i) v (leases past) (record { worker = v; key = k; index = j }) e mine)

-- a node of which a lease is out is out
pub lease-out : (w : ℕ) (past : List Event) (k : Key) (i worker : ℕ) → 1 ≤ w → w ≤ 64 → Legal w past → lease_of worker (leases past) ≡ Some (record { worker = worker; key = k; index = i }) → is_out (solo (own k past)) i ≡ true
lease-out w past k i worker some bound legal e =
    let mine : is_of k i (record { worker = worker; key = k; index = i }) ≡ true = and_from (is_key k k) (i == i) (is_key-same k) ((Decides-eqb i i).1 refl) in
    (some-leases w past some bound legal).nodes k i ∙ found-there (is_of k i) worker (leases past) (record { worker = worker; key = k; index = i }) e mine

-- a worker that has a lease is one of the hall
pub lease-worker : (w : ℕ) (past : List Event) (worker : ℕ) (l : LeaseOut) → 1 ≤ w → w ≤ 64 → Legal w past → lease_of worker (leases past) ≡ Some l → (l.worker ≡ worker) × IsWorker w worker
lease-worker w past worker l some bound legal e = found (leases past) (some-leases w past some bound legal).of_workers e
  where
    found : (ls : List LeaseOut) → All (λ (x : LeaseOut). IsWorker w x.worker) ls → lease_of worker ls ≡ Some l → (l.worker ≡ worker) × IsWorker w worker
    found [] all f = absurd (cc)
    found (x ∷ xs) all f = by_test (x.worker == worker) refl f (found xs (All-tail (λ (y : LeaseOut). IsWorker w y.worker) x xs all))
      where
        by_test : (b : Bool) → (x.worker == worker) ≡ b → cond b (Some x) (lease_of worker xs) ≡ Some l → (lease_of worker xs ≡ Some l → (l.worker ≡ worker) × IsWorker w worker) → (l.worker ≡ worker) × IsWorker w worker
        by_test true p g rest =
            let same : x ≡ l = cc in
            let worker_is : x.worker ≡ worker = (Decides-eqb x.worker worker).0 p in
            (ap (λ (y : LeaseOut). y.worker) (sym same) ∙ worker_is, subst (IsWorker w) worker_is (All-head (λ (y : LeaseOut). IsWorker w y.worker) x xs all))
        by_test false p g rest = rest g
