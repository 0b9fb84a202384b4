-- Halls that take their turns, and what has begun.
use Rattle.std.proofs.Common.{◌≡◌, ◌≢◌, ℕ, zero, suc, ◌+◌, ◌-◌, ◌%◌, ◌<◌, ◌≤◌, Bool, true, false, cond, List, [], ◌∷◌, ◌++◌, length, drop, take, map, flat_map, get_or, slice_set, Option, Some, None, Result, Ok, Err, inl, inr, refl, sym, ◌∙◌, ap, subst, arith, append-nil, append_assoc}
use Rattle.std.specs.Prelude.{OnErr, OnOk}
use Rattle.std.specs.List.{list_any}
use Rattle.std.proofs.lemmas.Bool.{both_ways, cases_lt, or_from}
use Rattle.std.proofs.lemmas.List.{drop_all, drop_more, get_or_default, get_or-set_same, length-map, length-set}
use Rattle.std.proofs.lemmas.List.Folds.{list_any-append}
use Rattle.mal_base.specs.declared.hall_fault.PickFault.TheVariants.{OutOfMemory}
use Rattle.spec_job.specs.KeyedJob.{Key}
use Rattle.spec_hall.specs.Calls.{HasCalled, Picks}
use Rattle.spec_hall.specs.Driven.{AreTurns, Balances, Exchanges, GrowsByTurns, Slices, Turn, events_in}
use Rattle.spec_hall.specs.Events.{Event, Arrive, Leave, moves}
use Rattle.spec_hall.specs.Legal.{Legal}
use Rattle.spec_hall.specs.Own.{brought_by}
use Rattle.spec_hall.specs.States.{leases}
use Rattle.spec_hall.specs.Turns.{HasWaited, IsSlice, TakesTurn, first_live}
use Rattle.spec_hall.proofs.PushLemmas.{Legal-push}
use Rattle.spec_hall.proofs.StatesLemmas.{legal_from-keeps}
use Rattle.spec_hall.proofs.TurnLemmas.{turns-more, turns-none}
use Rattle.mal_hall.specs.Driven.{IsTurn}
use Rattle.mal_hall.specs.HallView.{HallView}
use Rattle.spec_cluster.specs.declared.fault.MoveFault.{MoveFault}
use Rattle.spec_cluster.specs.declared.fault.MoveFault.TheVariants as moving
use Rattle.spec_cluster.specs.Calls.{IsMoving, went}
use Rattle.spec_cluster.specs.Clusters.{Cluster, IsCluster, home, is_there, with_hall}
use Rattle.spec_cluster.specs.Laws.{Grows}
use Rattle.spec_cluster.specs.Rounds.{AllTurn, AreRounds, GoRounds, HasBegun, IsPart, IsRound, IsTurning, StopsShort, carried, goes, is_live, may_come, next_hall}
use Rattle.spec_cluster.specs.Visits.{Move, hall_at, opens}
use Rattle.spec_cluster.proofs.GoesLemmas.{moves-go_on}
use Rattle.spec_cluster.proofs.GrowthLemmas.{growth-keeps}
use Rattle.spec_cluster.proofs.HallLemmas.{at-hall, home-found, home-none}
use Rattle.spec_cluster.proofs.MoveLemmas.{try-places}
use Rattle.spec_cluster.proofs.RoundLemmas.{AreThere, all-there, goes-there}
use Rattle.mal_cluster.specs.Kept.{IsKept, cluster_of, histories}
use Rattle.mal_cluster.specs.Turning.{AreTurning, HasTurns, HasTurnsAt}
use Rattle.mal_cluster.proofs.KeptLemmas.{cluster-set, histories-at, histories-length, history-at, kept-set}

-- one turn of a hall, of its slices
pub turned-first : (w : ℕ) (h : List Event) → leases h ≡ [] → HasTurns w h h
turned-first w h calm = record { grows = turns-none w h; home = calm }

pub turned-more : {E : Type 0} (w v : ℕ) (past mid now : List Event) (ran : Result Bool E) → v ≡ w → HasTurns w past mid → IsTurn v mid ran now → HasTurns w past now
turned-more w v past mid now ran same has turn = record { grows = turns-more w past mid now has.grows (subst (λ (u : ℕ). GrowsByTurns u mid now) same turn.turns); home = turn.home }

-- what is left of so many slices goes on to the whole turn
abbrev pub GoesOn : ℕ → ℕ → ℕ → List Event → List Event → Type 0
GoesOn w every made past mid = (now : List Event) → TakesTurn w (every - made) mid now → TakesTurn w every past now

less-none : (n : ℕ) → n - 0 ≡ n
less-none n = omega arith

pub goes-first : (w every : ℕ) (past : List Event) → GoesOn w every 0 past past
goes-first w every past now turn = subst (λ (n : ℕ). TakesTurn w n past now) (less-none every) turn

one-less : (n m : ℕ) → m < n → n - m ≡ suc (n - (m + 1))
one-less n m low = omega arith

pub goes-waited : {E : Type 0} (w v every made : ℕ) (past mid now : List Event) (b : Bool) → made < every → v ≡ w → GoesOn w every made past mid → IsTurn {E = E} v mid (Ok b) now → b ≡ false → TakesTurn w every past now
goes-waited w v every made past mid now b low same goes turn q = goes now (subst (λ (n : ℕ). TakesTurn w n mid now) (sym (one-less every made low)) (inl (subst (λ (u : ℕ). HasWaited u mid now) same (turn.waited q))))

pub goes-sliced : {E : Type 0} (w v every made : ℕ) (past mid now : List Event) (b : Bool) → made < every → v ≡ w → GoesOn w every made past mid → IsTurn {E = E} v mid (Ok b) now → b ≡ true → GoesOn w every (made + 1) past now
goes-sliced w v every made past mid now b low same goes turn q end rest = goes end (subst (λ (n : ℕ). TakesTurn w n mid end) (sym (one-less every made low)) (inr (now, subst (λ (u : ℕ). IsSlice u mid now) same (turn.slice q), rest)))

-- and stops short of it where it stops short
abbrev pub StopsOn : ℕ → ℕ → ℕ → List Event → List Event → Type 0
StopsOn w every made past mid = (now : List Event) → StopsShort w (every - made) mid now → StopsShort w every past now

pub stops-first : (w every : ℕ) (past : List Event) → StopsOn w every 0 past past
stops-first w every past now short = subst (λ (n : ℕ). StopsShort w n past now) (less-none every) short

pub stops-sliced : {E : Type 0} (w v every made : ℕ) (past mid now : List Event) (b : Bool) → made < every → v ≡ w → StopsOn w every made past mid → IsTurn {E = E} v mid (Ok b) now → b ≡ true → StopsOn w every (made + 1) past now
stops-sliced w v every made past mid now b low same stops turn q end rest = stops end (subst (λ (n : ℕ). StopsShort w n mid end) (sym (one-less every made low)) (inr (now, subst (λ (u : ℕ). IsSlice u mid now) same (turn.slice q), rest)))

pub stops-wanting : {E : Type 0} (w v every made : ℕ) (past mid now : List Event) (e : E) → made < every → v ≡ w → StopsOn w every made past mid → IsTurn v mid (Err e) now → StopsShort w every past now
stops-wanting w v every made past mid now e low same stops turn = stops now (subst (λ (n : ℕ). StopsShort w n mid now) (sym (one-less every made low)) (inl (subst (λ (u : ℕ). HasCalled u mid (Picks 1) (Err OutOfMemory) now) same turn.wanting)))

pub goes-last : (w every made : ℕ) (past now : List Event) → every ≤ made → GoesOn w every made past now → TakesTurn w every past now
goes-last w every made past now high goes = goes now (subst (λ (n : ℕ). TakesTurn w n now now) (sym (none every made high)) refl)
  where
    none : (n m : ℕ) → n ≤ m → n - m ≡ 0
    none n m q = omega arith

-- turns move no job and open none
turn-still : (t : Turn) → list_any moves (events_in t) ≡ false
turn-still (Balances shares) = refl
turn-still (Exchanges k) = refl
turn-still (Slices k index outcome) = refl

turn-shut : (k : Key) (t : Turn) → list_any (opens k) (events_in t) ≡ false
turn-shut k (Balances shares) = refl
turn-shut k (Exchanges j) = refl
turn-shut k (Slices j index outcome) = refl

none-in : (test : Event → Bool) → ((t : Turn) → list_any test (events_in t) ≡ false) → (ts : List Turn) → list_any test (flat_map events_in ts) ≡ false
none-in test none [] = refl
none-in test none (t ∷ ts) = list_any-append test (events_in t) (flat_map events_in ts) ∙ or_from (list_any test (events_in t)) (list_any test (flat_map events_in ts)) (none t) (none-in test none ts)

turns-legal : (w : ℕ) (past : List Event) (ts : List Turn) → Legal w past → AreTurns w past ts → Legal w (past ++ flat_map events_in ts)
turns-legal w past [] legal are = subst (Legal w) (sym (append-nil past)) legal
turns-legal w past (t ∷ ts) legal are = subst (Legal w) (append_assoc past (events_in t) (flat_map events_in ts)) (turns-legal w (past ++ events_in t) ts (legal_from-keeps w (Legal w) (λ h e may l. Legal-push w h e l may) past (events_in t) are.2 legal) are.3)

-- so they keep what holds of a cluster
pub turns-keep : (c : Cluster) (n : ℕ) (now : List Event) → IsCluster c → n < length c.halls → HasTurns c.workers (hall_at c.halls n) now → IsCluster (with_hall c n now)
turns-keep c n now is within has = subst (λ (h : List Event). IsCluster (with_hall c n h)) (sym has.grows.grown) (growth-keeps c n es is grows)
  where
    es : List Event
    es = flat_map events_in has.grows.turns

    grows : Grows c n es
    grows = record {
      within = within;
      legal = turns-legal c.workers (hall_at c.halls n) has.grows.turns (is.legal n) has.grows.allowed;
      calm = ap leases (sym has.grows.grown) ∙ has.home;
      still = none-in moves turn-still has.grows.turns;
      fresh = λ k opened. absurd (both_ways (list_any (opens k) es) (none-in (opens k) (turn-shut k) has.grows.turns) opened);
    }

-- what holds where a call succeeded
pub ok-then : {T E : Type 0} (P Q : Type 0) (r : Result T E) → (P → Q) → OnOk r P → OnOk r Q
ok-then P Q (Ok x) f p = f p
ok-then P Q (Err e) f p = tt

-- a turn of the hall at a place
module _ (w : ℕ) (halls : List HallView) (noted : List Move) (n : ℕ) (before after : HallView) (kept : IsKept w halls noted) (low : n < length halls) (there : before ≡ get_or halls n before) where
  workers-is : before.workers ≡ w
  workers-is = ap (λ (h : HallView). h.workers) there ∙ kept.each n before low

  was : hall_at (histories halls) n ≡ before.events
  was = history-at halls n before low there

  within : n < length (histories halls)
  within = subst (λ (m : ℕ). n < m) (sym (histories-length halls)) low

  now-at : hall_at (histories (slice_set halls n after)) n ≡ after.events
  now-at = ap (λ (hs : List (List Event)). hall_at hs n) (histories-at halls n after) ∙ get_or-set_same (histories halls) n after.events [] within

  pub calm-at : leases before.events ≡ []
  calm-at = ap leases (sym was) ∙ kept.cluster.calm n

  pub turn-at : (Turns : ℕ → List Event → List Event → Type 0) → Turns before.workers before.events after.events → Turns w (hall_at (histories halls) n) (hall_at (histories (slice_set halls n after)) n)
  turn-at Turns turn = subst (Turns w (hall_at (histories halls) n)) (sym now-at) (subst (λ (h : List Event). Turns w h after.events) (sym was) (subst (λ (v : ℕ). Turns v before.events after.events) workers-is turn))

  turns-at : HasTurns before.workers before.events after.events → HasTurns w (hall_at (histories halls) n) after.events
  turns-at has = subst (λ (h : List Event). HasTurns w h after.events) (sym was) (subst (λ (v : ℕ). HasTurns v before.events after.events) workers-is has)

  pub turned-at : HasTurns before.workers before.events after.events → HasTurnsAt (cluster_of w halls noted) n (cluster_of w (slice_set halls n after) noted)
  turned-at has = record {
    turns = subst (HasTurns w (hall_at (histories halls) n)) (sym now-at) (turns-at has);
    kept = cluster-set w halls noted n before after kept.each low there ∙ ap (with_hall (cluster_of w halls noted) n) (sym now-at);
  }

  pub turned-kept : after.workers ≡ before.workers → HasTurns before.workers before.events after.events → IsKept w (slice_set halls n after) noted
  turned-kept same has = kept-set w halls noted n before after kept low there same (subst IsCluster (sym (cluster-set w halls noted n before after kept.each low there)) (turns-keep (cluster_of w halls noted) n after.events kept.cluster within (turns-at has)))

-- what has begun
pub begun-none : (c : Cluster) → HasBegun c c
begun-none c = record { workers = refl; histories = λ n. ([], sym (append-nil (hall_at c.halls n))); more = []; moves = sym (append-nil c.moves) }

pub begun-more : (a b c : Cluster) → HasBegun a b → HasBegun b c → HasBegun a c
begun-more a b c one two = record {
  workers = two.workers ∙ one.workers;
  histories = λ n. ((one.histories n).0 ++ (two.histories n).0, (two.histories n).1 ∙ (ap (λ (h : List Event). h ++ (two.histories n).0) (one.histories n).1 ∙ append_assoc (hall_at a.halls n) (one.histories n).0 (two.histories n).0));
  more = one.more ++ two.more;
  moves = two.moves ∙ (ap (λ (ms : List Move). ms ++ two.more) one.moves ∙ append_assoc a.moves one.more two.more);
}

pub begun-same : (a b c : Cluster) → HasBegun a b → c ≡ b → HasBegun a c
begun-same a b c begun same = subst (HasBegun a) (sym same) begun

-- each history after a move
abbrev GrowsTo : List Event → List Event → Type 0
GrowsTo past now = (later : List Event) × (now ≡ past ++ later)

went-begun : (c : Cluster) (k : Key) (a b : ℕ) → a < length c.halls → b < length c.halls → b ≢ a → HasBegun c (went k a b c)
went-begun c k a b low within other = record {
  workers = refl;
  histories = at-hall mids b come within-mids (λ m h. GrowsTo (hall_at c.halls m) h) (Arrive k (brought_by k (hall_at c.halls a)) ∷ [], refl)
      (λ m away. at-hall c.halls a left low (λ n h. GrowsTo (hall_at c.halls n) h) (Leave k ∷ [], refl) (λ n far. ([], sym (append-nil (hall_at c.halls n)))) m);
  more = record { key = k; visit = record { hall = b; from = length (hall_at c.halls b) + 1 } } ∷ [];
  moves = refl;
}
  where
    left : List Event
    left = hall_at c.halls a ++ Leave k ∷ []

    come : List Event
    come = hall_at c.halls b ++ Arrive k (brought_by k (hall_at c.halls a)) ∷ []

    mids : List (List Event)
    mids = slice_set c.halls a left

    within-mids : b < length mids
    within-mids = subst (λ (n : ℕ). b < n) (sym (length-set c.halls a left)) within

pub moving-begun : (c after : Cluster) (k : Key) (to : ℕ) (answer : Result (Unit {0}) MoveFault) → IsMoving c k to answer after → HasBegun c after
moving-begun c after k to (Ok done) call =
    let places = try-places c k to call.0 call.1.may in
    begun-same c (went k call.0 (to - 1) c) after (went-begun c k call.0 (to - 1) (home-found k c.halls call.0 call.1.may.there).within places.0 places.1) call.1.went_on
moving-begun c after k to (Err moving.NoJob) call = begun-same c c after (begun-none c) call.1
moving-begun c after k to (Err moving.NoHall) call = begun-same c c after (begun-none c) call.2
moving-begun c after k to (Err moving.Same) call = begun-same c c after (begun-none c) call.3
moving-begun c after k to (Err moving.TenantFull) call = begun-same c c after (begun-none c) call.2
moving-begun c after k to (Err moving.HallFull) call = begun-same c c after (begun-none c) call.2
moving-begun c after k to (Err moving.OutOfMemory) call = begun-same c c after (begun-none c) call.2

-- a job that is there is at home there
home-is : (c : Cluster) (k : Key) (n : ℕ) → IsCluster c → is_there k (hall_at c.halls n) ≡ true → home k c.halls ≡ Some n
home-is c k n is there = by_home (home k c.halls) refl
  where
    by_home : (o : Option ℕ) → home k c.halls ≡ o → o ≡ Some n
    by_home None q = absurd (both_ways (is_there k (hall_at c.halls n)) (home-none k c.halls q n) there)
    by_home (Some m) q = ap (λ (x : ℕ). Some x) (is.one_home k m n (home-found k c.halls m q).there there)

-- so it goes on by its move
pub goes-by : (c after : Cluster) (k : Key) (from count : ℕ) (answer : Result (Unit {0}) MoveFault) → IsCluster c → is_there k (hall_at c.halls from) ≡ true → count ≡ length c.halls → IsMoving c k ((from + 1) % count + 1) answer after → answer ≢ Err moving.OutOfMemory → after ≡ goes (Some k) from c
goes-by c after k from count answer is there many call memory = moves-go_on c after k from answer is (home-is c k from is there) (subst (λ (n : ℕ). IsMoving c k ((from + 1) % n + 1) answer after) many call) memory

pub done-fed : (answer : Result (Unit {0}) MoveFault) (done : Unit {0}) → answer ≡ Ok done → answer ≢ Err moving.OutOfMemory
done-fed answer done q e = cc

pub stayed-fed : (answer : Result (Unit {0}) MoveFault) (fault : MoveFault) → answer ≡ Err fault → fault ≢ moving.OutOfMemory → answer ≢ Err moving.OutOfMemory
stayed-fed answer fault is other q = other (only answer fault moving.OutOfMemory is q)
  where
    only : (r : Result (Unit {0}) MoveFault) (a b : MoveFault) → r ≡ Err a → r ≡ Err b → a ≡ b
    only r a b p e = cc

-- the halls take their turns, one after the other
pub turning-first : (every : ℕ) (c : Cluster) → AreTurning every 0 c c
turning-first every c = record {
  size = refl;
  workers = refl;
  moves = refl;
  done = λ n low. absurd (none n low);
  left = λ n high. refl;
  grown = λ n. ([], sym (append-nil (hall_at c.halls n)));
}
  where
    none : (n : ℕ) → n < 0 → ⊥
    none n low = omega arith

pub turned-begun : (c : Cluster) (n : ℕ) (after : Cluster) → n < length c.halls → HasTurnsAt c n after → HasBegun c after
turned-begun c n after low has = record {
  workers = ap (λ (x : Cluster). x.workers) has.kept;
  histories = subst (λ (hs : List (List Event)). (m : ℕ) → GrowsTo (hall_at c.halls m) (hall_at hs m)) (sym (ap (λ (x : Cluster). x.halls) has.kept)) (at-hall c.halls n (hall_at after.halls n) low (λ m h. GrowsTo (hall_at c.halls m) h) (flat_map events_in has.turns.grows.turns, has.turns.grows.grown) (λ m other. ([], sym (append-nil (hall_at c.halls m)))));
  more = [];
  moves = ap (λ (x : Cluster). x.moves) has.kept ∙ sym (append-nil c.moves);
}

pub turning-begun : (every at : ℕ) (c now : Cluster) → AreTurning every at c now → HasBegun c now
turning-begun every at c now are = record { workers = are.workers; histories = are.grown; more = []; moves = are.moves ∙ sym (append-nil c.moves) }

pub turning-next : (every at : ℕ) (c mid now : Cluster) → AreTurning every at c mid → at < length mid.halls → HasTurnsAt mid at now → TakesTurn mid.workers every (hall_at mid.halls at) (hall_at now.halls at) → AreTurning every (at + 1) c now
turning-next every at c mid now are low has turn = record {
  size = ap (λ (hs : List (List Event)). length hs) halls ∙ (length-set mid.halls at (hall_at now.halls at) ∙ are.size);
  workers = ap (λ (x : Cluster). x.workers) has.kept ∙ are.workers;
  moves = ap (λ (x : Cluster). x.moves) has.kept ∙ are.moves;
  done = at-now (λ m h. m < at + 1 → TakesTurn c.workers every (hall_at c.halls m) h) (λ below. subst (λ (h : List Event). TakesTurn c.workers every h (hall_at now.halls at)) (are.left at (omega arith)) (subst (λ (v : ℕ). TakesTurn v every (hall_at mid.halls at) (hall_at now.halls at)) are.workers turn)) (λ m other below. are.done m (under m at other below));
  left = at-now (λ m h. at + 1 ≤ m → h ≡ hall_at c.halls m) (λ high. absurd (over at high)) (λ m other high. are.left m (above m at high));
  grown = begun.histories;
}
  where
    halls : now.halls ≡ slice_set mid.halls at (hall_at now.halls at)
    halls = ap (λ (x : Cluster). x.halls) has.kept

    at-now : (P : ℕ → List Event → Type 0) → P at (hall_at now.halls at) → ((m : ℕ) → m ≢ at → P m (hall_at mid.halls m)) → (m : ℕ) → P m (hall_at now.halls m)
    at-now P here others = subst (λ (hs : List (List Event)). (m : ℕ) → P m (hall_at hs m)) (sym halls) (at-hall mid.halls at (hall_at now.halls at) low P here others)

    under : (m n : ℕ) → m ≢ n → m < n + 1 → m < n
    under m n other below = elim (cases_lt m n) [ inl less ↦ less | inr high ↦ absurd (other (same m n high below)) ]
      where
        same : (a b : ℕ) → b ≤ a → a < b + 1 → a ≡ b
        same a b p q = omega arith

    over : (n : ℕ) → n + 1 ≤ n → ⊥
    over n high = omega arith

    above : (m n : ℕ) → n + 1 ≤ m → n ≤ m
    above m n high = omega arith

    begun : HasBegun c now
    begun = begun-more c mid now (turning-begun every at c mid are) (turned-begun mid at now low has)

all-turn : (w every : ℕ) (pasts nows : List (List Event)) → length nows ≡ length pasts → ((n : ℕ) → n < length pasts → TakesTurn w every (hall_at pasts n) (hall_at nows n)) → AllTurn w every pasts nows
all-turn w every [] [] same turns = tt
all-turn w every [] (now ∷ nows) same turns = absurd (none (length nows) same)
  where
    none : (n : ℕ) → suc n ≡ 0 → ⊥
    none n q = omega arith
all-turn w every (past ∷ pasts) [] same turns = absurd (none (length pasts) same)
  where
    none : (n : ℕ) → 0 ≡ suc n → ⊥
    none n q = omega arith
all-turn w every (past ∷ pasts) (now ∷ nows) same turns = (turns 0 (omega arith), all-turn w every pasts nows (less (length nows) (length pasts) same) (λ n low. turns (suc n) (omega (arith, low))))
  where
    less : (a b : ℕ) → suc a ≡ suc b → a ≡ b
    less a b q = omega arith

pub turning-last : (every at : ℕ) (c now : Cluster) → AreTurning every at c now → length c.halls ≤ at → AllTurn c.workers every c.halls now.halls
turning-last every at c now are high = all-turn c.workers every c.halls now.halls are.size (λ n low. are.done n (below n (length c.halls) at low high))
  where
    below : (a b d : ℕ) → a < b → b ≤ d → a < d
    below a b d p q = omega arith

-- the chosen jobs go on, one after the other
pub record IsCarrying (chosen : List (Option Key)) (from : ℕ) (c now : Cluster) : Type 0 where
  pub going : carried (drop from chosen) from now ≡ carried chosen 0 c
  pub gone : now ≡ carried (take from chosen) 0 c
  pub there : AreThere (drop from chosen) from now
  pub begun : HasBegun c now
  pub size : length now.halls ≡ length c.halls

-- one more of the first jobs goes on
carried-more : (chosen : List (Option Key)) (n base : ℕ) (c : Cluster) → n < length chosen → carried (take (suc n) chosen) base c ≡ goes (get_or chosen n None) (base + n) (carried (take n chosen) base c)
carried-more [] n base c low = absurd (none n low)
  where
    none : (m : ℕ) → m < 0 → ⊥
    none m q = omega arith
carried-more (x ∷ xs) zero base c low = ap (λ (m : ℕ). goes x m c) (same base)
  where
    same : (m : ℕ) → m ≡ m + 0
    same m = omega arith
carried-more (x ∷ xs) (suc n) base c low = carried-more xs n (base + 1) (goes x base c) (omega (arith, low)) ∙ ap (λ (m : ℕ). goes (get_or xs n None) m (carried (take n xs) (base + 1) (goes x base c))) (moved base n)
  where
    moved : (a b : ℕ) → a + 1 + b ≡ a + suc b
    moved a b = omega arith

gone-next : (chosen : List (Option Key)) (from : ℕ) (c mid now : Cluster) (o : Option Key) → from < length chosen → get_or chosen from None ≡ o → mid ≡ carried (take from chosen) 0 c → now ≡ goes o from mid → now ≡ carried (take (from + 1) chosen) 0 c
gone-next chosen from c mid now o low one gone step =
    step
    ∙ (ap (λ (x : Cluster). goes o from x) gone
    ∙ (ap (λ (x : Option Key). goes x from (carried (take from chosen) 0 c)) (sym one)
    ∙ (ap (λ (m : ℕ). goes (get_or chosen from None) m (carried (take from chosen) 0 c)) (from-none from)
    ∙ (sym (carried-more chosen from 0 c low)
    ∙ ap (λ (m : ℕ). carried (take m chosen) 0 c) (one-more from)))))
  where
    from-none : (m : ℕ) → m ≡ 0 + m
    from-none m = omega arith

    one-more : (m : ℕ) → suc m ≡ m + 1
    one-more m = omega arith

pub carrying-none : (chosen : List (Option Key)) (from : ℕ) (c now : Cluster) → from < length chosen → get_or chosen from None ≡ None → IsCarrying chosen from c now → IsCarrying chosen (from + 1) c now
carrying-none chosen from c now low none is = record {
  going = sym (ap (λ (ks : List (Option Key)). carried ks from now) parts) ∙ is.going;
  gone = gone-next chosen from c now now None low none is.gone refl;
  there = subst (λ (ks : List (Option Key)). AreThere ks from now) parts is.there;
  begun = is.begun;
  size = is.size;
}
  where
    parts : drop from chosen ≡ None ∷ drop (from + 1) chosen
    parts = drop_more chosen from None low ∙ ap (λ (o : Option Key). o ∷ drop (from + 1) chosen) none

went-size : (c : Cluster) (k : Key) (from : ℕ) (b : Bool) → length (cond b (went k from (next_hall from c) c) c).halls ≡ length c.halls
went-size c k from true =
    length-set (slice_set c.halls from (hall_at c.halls from ++ Leave k ∷ [])) (next_hall from c) (hall_at c.halls (next_hall from c) ++ Arrive k (brought_by k (hall_at c.halls from)) ∷ [])
    ∙ length-set c.halls from (hall_at c.halls from ++ Leave k ∷ [])
went-size c k from false = refl

module _ (chosen : List (Option Key)) (from : ℕ) (c mid : Cluster) (k : Key) (low : from < length chosen) (one : get_or chosen from None ≡ Some k) (is : IsCarrying chosen from c mid) where
  parts : drop from chosen ≡ Some k ∷ drop (from + 1) chosen
  parts = drop_more chosen from None low ∙ ap (λ (o : Option Key). o ∷ drop (from + 1) chosen) one

  are : AreThere (Some k ∷ drop (from + 1) chosen) from mid
  are = subst (λ (ks : List (Option Key)). AreThere ks from mid) parts is.there

  pub carrying-there : is_there k (hall_at mid.halls from) ≡ true
  carrying-there = are.0

  pub carrying-next : (now : Cluster) → IsCluster mid → now ≡ goes (Some k) from mid → HasBegun mid now → IsCarrying chosen (from + 1) c now
  carrying-next now kept step begun = record {
    going = ap (carried (drop (from + 1) chosen) (from + 1)) step ∙ (sym (ap (λ (ks : List (Option Key)). carried ks from mid) parts) ∙ is.going);
    gone = gone-next chosen from c mid now (Some k) low one is.gone step;
    there = subst (AreThere (drop (from + 1) chosen) (from + 1)) (sym step) (goes-there mid k from kept are.0 (drop (from + 1) chosen) are.1);
    begun = begun-more c mid now is.begun begun;
    size = ap (λ (x : Cluster). length x.halls) step ∙ (went-size mid k from (may_come k (hall_at mid.halls (next_hall from mid))) ∙ is.size);
  }

pub carrying-last : (chosen : List (Option Key)) (from : ℕ) (c now : Cluster) → length chosen ≤ from → IsCarrying chosen from c now → now ≡ carried chosen 0 c
carrying-last chosen from c now high is = sym (ap (λ (ks : List (Option Key)). carried ks from now) (drop_all from chosen high)) ∙ is.going

-- the key that was chosen at a place
pub chosen-at : (chosen : List (Option Key)) (from : ℕ) (o : Option Key) → from < length chosen → o ≡ get_or chosen from o → get_or chosen from None ≡ o
chosen-at chosen from o low there = get_or_default chosen from None o low ∙ sym there

-- rounds, one after the other
abbrev pub GoRound : ℕ → Cluster → Cluster → Type 0
GoRound every c now = (rest : List Cluster) (end : Cluster) → AreRounds every now rest end → (rounds : List Cluster) × AreRounds every c rounds end

pub round-first : (every : ℕ) (c : Cluster) → GoRound every c c
round-first every c rest end are = (rest, are)

pub round-next : (every : ℕ) (c mid now : Cluster) → is_live mid ≡ true → IsRound every mid now → GoRound every c mid → GoRound every c now
round-next every c mid now live round go rest end are = go (now ∷ rest) end (live, round, are)

pub round-last : (every : ℕ) (c now : Cluster) → is_live now ≡ false → GoRound every c now → (rounds : List Cluster) × AreRounds every c rounds now
round-last every c now live go = go [] now (refl, live)

-- as many were chosen as there are halls
pub chosen-count : (chosen : List (Option Key)) (halls : List (List Event)) → chosen ≡ map first_live halls → length chosen ≡ length halls
chosen-count chosen halls same = ap (λ (ks : List (Option Key)). length ks) same ∙ length-map halls first_live

pub carrying-first : (chosen : List (Option Key)) (c : Cluster) → chosen ≡ map first_live c.halls → IsCarrying chosen 0 c c
carrying-first chosen c same = record { going = refl; gone = refl; there = subst (λ (ks : List (Option Key)). AreThere ks 0 c) (sym same) (all-there c); begun = begun-none c; size = refl }

-- what holds where a call was refused
pub err-then : {T E : Type 0} (P Q : Type 0) (r : Result T E) → (P → Q) → OnErr r P → OnErr r Q
err-then P Q (Ok x) f p = tt
err-then P Q (Err e) f p = f p

-- a move that ran out of memory changed nothing
pub wanting-same : (c after : Cluster) (k : Key) (to : ℕ) (answer : Result (Unit {0}) MoveFault) (fault : MoveFault) → answer ≡ Err fault → fault ≡ moving.OutOfMemory → IsMoving c k to answer after → after ≡ c
wanting-same c after k to answer fault is memory call = (subst (λ (r : Result (Unit {0}) MoveFault). IsMoving c k to r after) (is ∙ ap (λ (f : MoveFault). Err f) memory) call).2

-- the turns of the halls broke off in that of the hall at a place
pub turning-broken : (every at : ℕ) (c mid now : Cluster) → AreTurning every at c mid → at < length mid.halls → HasTurnsAt mid at now → StopsShort mid.workers every (hall_at mid.halls at) (hall_at now.halls at) → IsTurning every at c now
turning-broken every at c mid now are low has stopped = record {
  within = subst (λ (m : ℕ). at < m) are.size low;
  workers = ap (λ (x : Cluster). x.workers) has.kept ∙ are.workers;
  size = ap (λ (hs : List (List Event)). length hs) halls ∙ (length-set mid.halls at (hall_at now.halls at) ∙ are.size);
  moves = ap (λ (x : Cluster). x.moves) has.kept ∙ are.moves;
  done = at-now (λ m h. m < at → TakesTurn c.workers every (hall_at c.halls m) h) (λ below. absurd (over at below)) (λ m other below. are.done m below);
  begun = subst (λ (h : List Event). StopsShort c.workers every h (hall_at now.halls at)) (are.left at (omega arith)) (subst (λ (v : ℕ). StopsShort v every (hall_at mid.halls at) (hall_at now.halls at)) are.workers stopped);
  left = at-now (λ m h. at < m → h ≡ hall_at c.halls m) (λ high. absurd (over at high)) (λ m other high. are.left m (above m at high));
}
  where
    halls : now.halls ≡ slice_set mid.halls at (hall_at now.halls at)
    halls = ap (λ (x : Cluster). x.halls) has.kept

    at-now : (P : ℕ → List Event → Type 0) → P at (hall_at now.halls at) → ((m : ℕ) → m ≢ at → P m (hall_at mid.halls m)) → (m : ℕ) → P m (hall_at now.halls m)
    at-now P here others = subst (λ (hs : List (List Event)). (m : ℕ) → P m (hall_at hs m)) (sym halls) (at-hall mid.halls at (hall_at now.halls at) low P here others)

    over : (n : ℕ) → n < n → ⊥
    over n high = omega arith

    above : (m n : ℕ) → n < m → n ≤ m
    above m n high = omega arith

-- all halls took their turns, and of the chosen jobs some went on
pub going-broken : (every count : ℕ) (c mid now : Cluster) → mid.workers ≡ c.workers → mid.moves ≡ c.moves → AllTurn c.workers every c.halls mid.halls → now ≡ carried (take count (map first_live mid.halls)) 0 mid → IsPart every c now
going-broken every count c mid now workers same turned gone = inr (
  count,
  record {
    mids = mid.halls;
    turned = turned;
    moved = gone ∙ ap (carried (take count (map first_live mid.halls)) 0) (ap (λ (w : ℕ). let x : Cluster = record { workers = w; halls = mid.halls; moves = mid.moves } in x) workers ∙ ap (λ (ms : List Move). let x : Cluster = record { workers = c.workers; halls = mid.halls; moves = ms } in x) same);
  },
)

-- rounds that were gone
pub rounds-gone : (every : ℕ) (c : Cluster) (rounds : List Cluster) (mid now : Cluster) → GoRounds every c rounds mid → is_live mid ≡ true → IsRound every mid now → GoRounds every c (rounds ++ now ∷ []) now
rounds-gone every c [] mid now same live round = (ap is_live (sym same) ∙ live, subst (λ (x : Cluster). IsRound every x now) same round, refl)
rounds-gone every c (next ∷ rest) mid now are live round = (are.0, are.1, rounds-gone every next rest mid now are.2 live round)
