-- A round keeps what holds of a cluster.
use Rattle.std.proofs.Common.{◌≡◌, ◌≢◌, ℕ, zero, suc, ◌+◌, ◌<◌, Bool, true, false, cond, not, ◌&&◌, ◌||◌, ◌==◌, nat_lt, List, [], ◌∷◌, ◌++◌, length, map, slice_set, Option, Some, None, inl, inr, refl, sym, ◌∙◌, ap, subst, arith, append_assoc}
use Rattle.std.specs.List.{list_any}
use Rattle.std.proofs.lemmas.Bool.{and_parts, both_ways, false_from_ne_true, ltb-true, or_cases}
use Rattle.std.proofs.lemmas.Bool.Decides.{Decides-eqb}
use Rattle.mal_base.specs.Names.{is_name}
use Rattle.spec_job.specs.KeyedJob.{Key}
use Rattle.spec_hall.specs.Events.{Event, Open, Revise, Reask, Close, Balance, Start, Finish, Exchange, Leave, Arrive}
use Rattle.spec_hall.specs.Legal.{Allowed, Legal, MayArrive, job_of, jobs_of, tenant_count}
use Rattle.spec_hall.specs.Own.{brought_by, is_key}
use Rattle.spec_hall.specs.States.{keys_of, names_of, states, titled}
use Rattle.spec_hall.specs.Turns.{TakesTurn, first_live}
use Rattle.spec_hall.proofs.GoingLemmas.{brought-home, brought-lawful, brought-still}
use Rattle.spec_hall.proofs.KeyLemmas.{is_key-Decides}
use Rattle.spec_hall.proofs.OrderlyLemmas.{legal-orderly}
use Rattle.spec_hall.proofs.StatesLemmas.{job_of-states, legal_from-keeps}
use Rattle.spec_cluster.specs.Calls.{went}
use Rattle.spec_cluster.specs.Clusters.{Cluster, IsCluster, is_named, is_there}
use Rattle.spec_cluster.specs.Laws.{RoundsKeep}
use Rattle.spec_cluster.specs.Rounds.{AllTurn, AreRounds, IsRound, carried, goes, may_come, next_hall}
use Rattle.spec_cluster.specs.Visits.{hall_at}
use Rattle.spec_cluster.proofs.AmongLemmas.{key-counts}
use Rattle.spec_cluster.proofs.GoesLemmas.{next-other, next-within}
use Rattle.spec_cluster.proofs.GrowthLemmas.{growth-keeps}
use Rattle.spec_cluster.proofs.HallLemmas.{IsHome}
use Rattle.spec_cluster.proofs.MoveLemmas.{there-still, went-is}
use Rattle.spec_cluster.proofs.NameLemmas.{comes, named-append, or-none}
use Rattle.spec_cluster.proofs.TakenLemmas.{first-key}
use Rattle.spec_cluster.proofs.TurnLemmas.{turn-grows}

-- a job that came has a name
record HasName (k : Key) : Type 0 where
  tenant : is_name k.tenant ≡ true
  job : is_name k.job ≡ true

coming-named : (w : ℕ) (past : List Event) (e : Event) (k : Key) → Allowed w past e → comes k e ≡ true → HasName k
coming-named w past (Open j ask) k may q = subst HasName (sym ((is_key-Decides k j).0 q)) (record { tenant = may.tenant; job = may.job })
coming-named w past (Revise j number r) k may q = absurd (both_ways false refl q)
coming-named w past (Reask j weight) k may q = absurd (both_ways false refl q)
coming-named w past (Close j) k may q = absurd (both_ways false refl q)
coming-named w past (Balance shares) k may q = absurd (both_ways false refl q)
coming-named w past (Start j index worker) k may q = absurd (both_ways false refl q)
coming-named w past (Finish j index worker outcome) k may q = absurd (both_ways false refl q)
coming-named w past (Exchange j) k may q = absurd (both_ways false refl q)
coming-named w past (Leave j) k may q = absurd (both_ways false refl q)
coming-named w past (Arrive j brought) k may q = subst HasName (sym ((is_key-Decides k j).0 q)) (record { tenant = may.tenant; job = may.job })

names-are : (w : ℕ) (h : List Event) → Legal w h → (k : Key) → is_named k h ≡ true → HasName k
names-are w h legal = legal_from-keeps w (λ past. (k : Key) → is_named k past ≡ true → HasName k) push [] h legal (λ k q. absurd (both_ways false refl q))
  where
    push : (past : List Event) (e : Event) → Allowed w past e → ((k : Key) → is_named k past ≡ true → HasName k) → (k : Key) → is_named k (past ++ e ∷ []) ≡ true → HasName k
    push past e may old k q = elim (or_cases (is_named k past) (comes k e || false) (sym (named-append k past (e ∷ [])) ∙ q)) [ inl was ↦ old k was | inr new ↦ coming-named w past e k may (or-none (comes k e) ∙ new) ]

-- a job that may come may arrive from the hall that has it
pub comes-arrives : (c : Cluster) (k : Key) (a b : ℕ) → IsCluster c → is_there k (hall_at c.halls a) ≡ true → b ≢ a → may_come k (hall_at c.halls b) ≡ true → MayArrive (hall_at c.halls b) k (brought_by k (hall_at c.halls a))
comes-arrives c k a b is there other may = record {
  tenant = names.tenant;
  job = names.job;
  absent = job_of-states to k ∙ ap (λ (x : Bool). cond x (Some (titled to k)) None) away;
  tenant_room = λ fresh. ltb-true (jobs_of k.tenant (names_of to)) 64 (room fresh).0;
  hall_room = λ none. by_none none (room (new none)).1;
  lawful = brought-lawful c.workers from k is.some_worker is.worker_bound (is.legal a) (titled from k) found;
  home = brought-home c.workers from k is.some_worker is.worker_bound (is.legal a) (ap (list_any (λ l. is_key k l.key)) (is.calm a));
  still = brought-still k from;
}
  where
    from : List Event
    from = hall_at c.halls a

    to : List Event
    to = hall_at c.halls b

    names : HasName k
    names = names-are c.workers from (is.legal a) k ((legal-orderly c.workers from (is.legal a)).known k there)

    away : is_there k to ≡ false
    away = false_from_ne_true (is_there k to) (λ q. other (is.one_home k b a q there))

    found : job_of k (states from) ≡ Some (titled from k)
    found = job_of-states from k ∙ ap (λ (x : Bool). cond x (Some (titled from k)) None) there

    room : is_named k to ≡ false → (nat_lt (jobs_of k.tenant (names_of to)) 64 ≡ true) × ((not (jobs_of k.tenant (names_of to) == 0) || nat_lt (tenant_count (names_of to)) 64) ≡ true)
    room fresh = and_parts (nat_lt (jobs_of k.tenant (names_of to)) 64) (not (jobs_of k.tenant (names_of to) == 0) || nat_lt (tenant_count (names_of to)) 64) (ap (λ (x : Bool). x || (nat_lt (jobs_of k.tenant (names_of to)) 64 && (not (jobs_of k.tenant (names_of to) == 0) || nat_lt (tenant_count (names_of to)) 64))) (sym fresh) ∙ may)

    not-zero : (n : ℕ) → n ≡ 0 → 0 < n → ⊥
    not-zero n p q = omega arith

    new : jobs_of k.tenant (names_of to) ≡ 0 → is_named k to ≡ false
    new none = false_from_ne_true (is_named k to) (λ q. not-zero (jobs_of k.tenant (names_of to)) none (key-counts k (names_of to) q))

    by_none : jobs_of k.tenant (names_of to) ≡ 0 → (not (jobs_of k.tenant (names_of to) == 0) || nat_lt (tenant_count (names_of to)) 64) ≡ true → tenant_count (names_of to) < 64
    by_none none q = ltb-true (tenant_count (names_of to)) 64 (ap (λ (x : Bool). not x || nat_lt (tenant_count (names_of to)) 64) (sym ((Decides-eqb (jobs_of k.tenant (names_of to)) 0).1 none)) ∙ q)

-- a hall that has a job is one of these
pub there-within : (k : Key) (halls : List (List Event)) (n : ℕ) → is_there k (hall_at halls n) ≡ true → n < length halls
there-within k [] n there = absurd (both_ways false refl there)
there-within k (h ∷ hs) zero there = omega arith
there-within k (h ∷ hs) (suc n) there = let within = there-within k hs n there in omega (arith, within)

-- the job that goes on from a hall that has it
module _ (c : Cluster) (k : Key) (from : ℕ) (is : IsCluster c) (there : is_there k (hall_at c.halls from) ≡ true) where
  pub going : IsHome k c.halls from
  going = record { within = there-within k c.halls from there; there = there }

  pub next-away : next_hall from c ≢ from
  next-away = next-other from (length c.halls) is.few going.within

  pub goes-arrives : may_come k (hall_at c.halls (next_hall from c)) ≡ true → MayArrive (hall_at c.halls (next_hall from c)) k (brought_by k (hall_at c.halls from))
  goes-arrives may = comes-arrives c k from (next_hall from c) is there next-away may

  -- what holds of the cluster as it is and where the job went on
  pub by-goes : (P : Cluster → Type 0) → P c → (MayArrive (hall_at c.halls (next_hall from c)) k (brought_by k (hall_at c.halls from)) → P (went k from (next_hall from c) c)) → P (goes (Some k) from c)
  by-goes P stays goes-on = by_test (may_come k (hall_at c.halls (next_hall from c))) refl
    where
      by_test : (b : Bool) → may_come k (hall_at c.halls (next_hall from c)) ≡ b → P (cond b (went k from (next_hall from c) c) c)
      by_test true q = goes-on (goes-arrives q)
      by_test false q = stays

  pub goes-keeps : IsCluster (goes (Some k) from c)
  goes-keeps = by-goes IsCluster is (λ may. went-is c k from (next_hall from c) is going (next-within c from is) next-away may)

-- each chosen job is there in its hall; the first was chosen in the hall at this place
abbrev pub AreThere : List (Option Key) → ℕ → Cluster → Type 0
AreThere [] from c = Unit {0}
AreThere (None ∷ rest) from c = AreThere rest (from + 1) c
AreThere (Some k ∷ rest) from c = (is_there k (hall_at c.halls from) ≡ true) × AreThere rest (from + 1) c

-- they stay where a job of a hall before goes on
module _ (c : Cluster) (k : Key) (from : ℕ) (is : IsCluster c) (there : is_there k (hall_at c.halls from) ≡ true) where
  went-there : MayArrive (hall_at c.halls (next_hall from c)) k (brought_by k (hall_at c.halls from)) → (chosen : List (Option Key)) (n : ℕ) → from < n → AreThere chosen n c → AreThere chosen n (went k from (next_hall from c) c)
  went-there may [] n less are = tt
  went-there may (None ∷ rest) n less are = went-there may rest (n + 1) (omega (arith, less)) are
  went-there may (Some j ∷ rest) n less are =
      (there-still c k from (next_hall from c) is (going c k from is there) (next-within c from is) (next-away c k from is there) may j (different j n less are.0) n are.0, went-there may rest (n + 1) (omega (arith, less)) are.1)
    where
      apart : (a b : ℕ) → a < b → b ≡ a → ⊥
      apart a b p q = omega arith

      different : (i : Key) (m : ℕ) → from < m → is_there i (hall_at c.halls m) ≡ true → is_key i k ≡ false
      different i m below q = false_from_ne_true (is_key i k) (λ e. apart from m below (is.one_home k m from (subst (λ (x : Key). is_there x (hall_at c.halls m) ≡ true) ((is_key-Decides i k).0 e) q) there))

  pub goes-there : (chosen : List (Option Key)) → AreThere chosen (from + 1) c → AreThere chosen (from + 1) (goes (Some k) from c)
  goes-there chosen are = by-goes c k from is there (AreThere chosen (from + 1)) are (λ may. went-there may chosen (from + 1) (omega arith) are)

-- what holds of a cluster and stays where a job goes on holds where all chosen ones went on
pub carried-has : (P : Cluster → Type 0) → ((c : Cluster) (k : Key) (from : ℕ) → IsCluster c → is_there k (hall_at c.halls from) ≡ true → P c → P (goes (Some k) from c))
    → (chosen : List (Option Key)) (from : ℕ) (c : Cluster) → IsCluster c → AreThere chosen from c → P c → P (carried chosen from c)
carried-has P stays [] from c is are h = h
carried-has P stays (None ∷ rest) from c is are h = carried-has P stays rest (from + 1) c is are h
carried-has P stays (Some k ∷ rest) from c is are h =
    carried-has P stays rest (from + 1) (goes (Some k) from c) (goes-keeps c k from is are.0) (goes-there c k from is are.0 rest are.1) (stays c k from is are.0 h)

pub carried-keeps : (chosen : List (Option Key)) (from : ℕ) (c : Cluster) → IsCluster c → AreThere chosen from c → IsCluster (carried chosen from c)
carried-keeps chosen from c is are = carried-has IsCluster (λ d k n ok there h. goes-keeps d k n ok there) chosen from c is are is

-- the first live job of each hall is there
pub first-there : (hs : List (List Event)) (from : ℕ) (c : Cluster) → ((n : ℕ) → hall_at c.halls (from + n) ≡ hall_at hs n) → AreThere (map first_live hs) from c
first-there [] from c same = tt
first-there (h ∷ hs) from c same = by_first (first_live h) refl (first-there hs (from + 1) c (λ n. ap (hall_at c.halls) (more from n) ∙ same (suc n)))
  where
    more : (a b : ℕ) → a + 1 + b ≡ a + suc b
    more a b = omega arith

    none : (a : ℕ) → a + 0 ≡ a
    none a = omega arith

    by_first : (o : Option Key) → first_live h ≡ o → AreThere (map first_live hs) (from + 1) c → AreThere (o ∷ map first_live hs) from c
    by_first None q rest = rest
    by_first (Some k) q rest = (subst (λ (x : List Event). is_there k x ≡ true) (sym (ap (hall_at c.halls) (sym (none from)) ∙ same 0)) (first-key h (keys_of h) k q), rest)

pub all-there : (c : Cluster) → AreThere (map first_live c.halls) 0 c
all-there c = first-there c.halls 0 c (λ n. ap (hall_at c.halls) (none n))
  where
    none : (n : ℕ) → 0 + n ≡ n
    none n = omega arith

-- the history after a front of halls, and another one in its place
pub front-at : (front rest : List (List Event)) (h : List Event) → hall_at (front ++ h ∷ rest) (length front) ≡ h
front-at [] rest h = refl
front-at (x ∷ xs) rest h = front-at xs rest h

pub front-set : (front rest : List (List Event)) (h now : List Event) → slice_set (front ++ h ∷ rest) (length front) now ≡ front ++ now ∷ rest
front-set [] rest h now = refl
front-set (x ∷ xs) rest h now = ap (λ (hs : List (List Event)). x ∷ hs) (front-set xs rest h now)

pub front-within : (front rest : List (List Event)) (h : List Event) → length front < length (front ++ h ∷ rest)
front-within [] rest h = omega arith
front-within (x ∷ xs) rest h = let within = front-within xs rest h in omega (arith, within)

-- a hall's turn
pub turn-keeps : (c : Cluster) (n every : ℕ) (now : List Event) → IsCluster c → n < length c.halls → TakesTurn c.workers every (hall_at c.halls n) now → IsCluster (record c { halls = slice_set c.halls n now })
turn-keeps c n every now is within turn =
    let g = turn-grows c n every now is within turn in
    subst (λ (h : List Event). IsCluster (record c { halls = slice_set c.halls n h })) (sym g.1) (growth-keeps c n g.0 is g.2)

-- and those of all
turns-keep : (c : Cluster) (every : ℕ) (front pasts nows : List (List Event)) → AllTurn c.workers every pasts nows → IsCluster (record c { halls = front ++ pasts }) → IsCluster (record c { halls = front ++ nows })
turns-keep c every front [] [] turns is = is
turns-keep c every front [] (now ∷ nows) turns is = absurd turns
turns-keep c every front (past ∷ pasts) [] turns is = absurd turns
turns-keep c every front (past ∷ pasts) (now ∷ nows) turns is =
    let turned = turn-keeps (record c { halls = front ++ past ∷ pasts }) (length front) every now is (front-within front pasts past) (subst (λ (h : List Event). TakesTurn c.workers every h now) (sym (front-at front pasts past)) turns.0) in
    let next = subst (λ (hs : List (List Event)). IsCluster (record c { halls = hs })) (front-set front pasts past now ∙ sym (append_assoc front (now ∷ []) pasts)) turned in
    subst (λ (hs : List (List Event)). IsCluster (record c { halls = hs })) (append_assoc front (now ∷ []) nows) (turns-keep c every (front ++ now ∷ []) pasts nows turns.1 next)

pub all-turn_keep : (c : Cluster) (every : ℕ) (mids : List (List Event)) → IsCluster c → AllTurn c.workers every c.halls mids → IsCluster (record c { halls = mids })
all-turn_keep c every mids is turns = turns-keep c every [] c.halls mids turns is

round-keeps : (every : ℕ) (c after : Cluster) → IsCluster c → IsRound every c after → IsCluster after
round-keeps every c after is round =
    let turned = all-turn_keep c every round.mids is round.turned in
    subst IsCluster (sym round.moved) (carried-keeps (map first_live round.mids) 0 (record c { halls = round.mids }) turned (all-there (record c { halls = round.mids })))

rounds-go_on : (every : ℕ) (c end : Cluster) (rounds : List Cluster) → IsCluster c → AreRounds every c rounds end → IsCluster end
rounds-go_on every c end [] is are = subst IsCluster (sym are.0) is
rounds-go_on every c end (next ∷ rest) is are = rounds-go_on every next end rest (round-keeps every c next is are.1) are.2

pub rounds-keep : RoundsKeep
rounds-keep = record { round = round-keeps; rounds = rounds-go_on }
