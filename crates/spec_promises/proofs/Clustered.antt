-- A run in a cluster is decided where no start runs out of memory.
use Rattle.std.proofs.Common.{◌≡◌, ℕ, zero, suc, ◌+◌, Bool, true, false, cond, List, [], ◌∷◌, ◌++◌, map, Option, Some, None, inl, inr, refl, sym, ◌∙◌, ap, ap₂, subst}
use Rattle.std.specs.Prelude.{Result, Ok}
use Rattle.std.specs.List.{list_all}
use Rattle.std.proofs.lemmas.Bool.{and_parts, both_ways}
use Rattle.std.proofs.lemmas.List.Folds.{list_all-append}
use Rattle.mal_base.specs.declared.hall_fault.PickFault.{PickFault}
use Rattle.mal_base.specs.declared.verdict.Outcome.{Outcome}
use Rattle.mal_base.specs.declared.verdict.Outcome.TheVariants.{Ran, Starved, Lost}
use Rattle.spec_job.specs.DemandOne.{had_memory}
use Rattle.spec_job.specs.KeyedJob.{Key}
use Rattle.spec_hall.specs.Calls.{HasCalled, Offer, Picks, Leased, Idle, AllDone}
use Rattle.spec_hall.specs.Driven.{was_lost}
use Rattle.spec_hall.specs.Events.{Event, Finish, Leave, Arrive}
use Rattle.spec_hall.specs.Own.{brought_by}
use Rattle.spec_hall.specs.States.{LeaseOut, lease_of, leases}
use Rattle.spec_hall.specs.Turns.{HasWaited, IsSlice, TakesTurn, first_live}
use Rattle.spec_hall.proofs.DecidedCallLemmas.{call-is_decided}
use Rattle.spec_run.specs.Run.{is_fed, IsFed}
use Rattle.spec_cluster.specs.Calls.{went}
use Rattle.spec_cluster.specs.Clusters.{Cluster}
use Rattle.spec_cluster.specs.Rounds.{AllTurn, AreRounds, IsRound, carried, goes, is_live, may_come, next_hall}
use Rattle.spec_cluster.specs.Run.{posted, histories_text, cluster_replies}
use Rattle.spec_cluster.specs.Visits.{hall_at}
use Rattle.spec_cluster.proofs.ThereLemmas.{GrewQuietly, turn-quiet, went-each}
use Rattle.spec_promises.specs.Decided.{AreFed, ClusterIsDecided}

-- what was fed in the end was so before
front-fed : (past more : List Event) → IsFed (past ++ more) → IsFed past
front-fed past more e = (and_parts (list_all is_fed past) (list_all is_fed more) (sym (list_all-append is_fed past more) ∙ e)).0

last-fed : (past : List Event) (e : Event) → IsFed (past ++ e ∷ []) → is_fed e ≡ true
last-fed past e q = (and_parts (is_fed e) true (and_parts (list_all is_fed past) (list_all is_fed (e ∷ [])) (sym (list_all-append is_fed past (e ∷ [])) ∙ q)).1).0

turn-fed : (w n : ℕ) (past now : List Event) → TakesTurn w n past now → IsFed now → IsFed past
turn-fed w n past now turn fed = let grew : GrewQuietly past now = turn-quiet w n past now turn in front-fed past grew.events (subst IsFed grew.grown fed)

-- a call that is answered is decided by the past
record AreCalled (a b : Result Offer PickFault) (h g : List Event) : Type 0 where
  answers : a ≡ b
  histories : h ≡ g

called-same : (w : ℕ) (past h g : List Event) (a b : Offer) → HasCalled w past (Picks 1) (Ok a) h → HasCalled w past (Picks 1) (Ok b) g → AreCalled (Ok a) (Ok b) h g
called-same w past h g a b one other =
    let same = call-is_decided w past (Picks 1) (Ok a) (Ok b) one.events other.events one.call other.call refl in
    record { answers = same.0; histories = one.grown ∙ (ap (λ (es : List Event). past ++ es) (same.1 refl) ∙ sym other.grown) }

-- so is a turn
both-ran : (a b : Outcome) → was_lost a ≡ false → was_lost b ≡ false → had_memory a ≡ true → had_memory b ≡ true → a ≡ b
both-ran Ran Ran p q x y = refl
both-ran Ran Starved p q x y = absurd (both_ways false refl y)
both-ran Ran Lost p q x y = absurd (both_ways true q refl)
both-ran Starved b p q x y = absurd (both_ways false refl x)
both-ran Lost b p q x y = absurd (both_ways true p refl)

slice-same : (w : ℕ) (past h g : List Event) → IsSlice w past h → IsSlice w past g → IsFed h → IsFed g → h ≡ g
slice-same w past h g one other fed also =
    let called : AreCalled (Ok (Leased one.lease)) (Ok (Leased other.lease)) one.mid other.mid = called-same w past one.mid other.mid (Leased one.lease) (Leased other.lease) one.picked other.picked in
    let found : Some one.out ≡ Some other.out = sym one.is_out ∙ (ap (λ (m : List Event). lease_of 1 (leases m)) called.histories ∙ other.is_out) in
    let out : one.out ≡ other.out = cc in
    let outcome : one.outcome ≡ other.outcome = both-ran one.outcome other.outcome one.came other.came (last-fed one.mid (Finish one.out.key one.out.index 1 one.outcome) (subst IsFed one.grown fed)) (last-fed other.mid (Finish other.out.key other.out.index 1 other.outcome) (subst IsFed other.grown also)) in
    one.grown ∙ (ap₂ (λ (m : List Event) (o : LeaseOut). m ++ Finish o.key o.index 1 one.outcome ∷ []) called.histories out ∙ (ap (λ (u : Outcome). other.mid ++ Finish other.out.key other.out.index 1 u ∷ []) outcome ∙ sym other.grown))

waited-same : (w : ℕ) (past h g : List Event) → HasWaited w past h → HasWaited w past g → h ≡ g
waited-same w past h g (inl one) (inl other) = (called-same w past h g Idle Idle one other).histories
waited-same w past h g (inl one) (inr other) = (called-same w past h g Idle AllDone one other).histories
waited-same w past h g (inr one) (inl other) = (called-same w past h g AllDone Idle one other).histories
waited-same w past h g (inr one) (inr other) = (called-same w past h g AllDone AllDone one other).histories

waited-not : (w : ℕ) (past h g : List Event) → HasWaited w past h → IsSlice w past g → ⊥
waited-not w past h g (inl one) slice = let same : Ok Idle ≡ Ok (Leased slice.lease) = (called-same w past h slice.mid Idle (Leased slice.lease) one slice.picked).answers in cc
waited-not w past h g (inr one) slice = let same : Ok AllDone ≡ Ok (Leased slice.lease) = (called-same w past h slice.mid AllDone (Leased slice.lease) one slice.picked).answers in cc

turn-same : (w n : ℕ) (past h g : List Event) → TakesTurn w n past h → TakesTurn w n past g → IsFed h → IsFed g → h ≡ g
turn-same w zero past h g one other fed also = one ∙ sym other
turn-same w (suc n) past h g (inl one) (inl other) fed also = waited-same w past h g one other
turn-same w (suc n) past h g (inl one) (inr other) fed also = absurd (waited-not w past h other.0 one other.1)
turn-same w (suc n) past h g (inr one) (inl other) fed also = absurd (waited-not w past g one.0 other one.1)
turn-same w (suc n) past h g (inr one) (inr other) fed also =
    let mid : one.0 ≡ other.0 = slice-same w past one.0 other.0 one.1 other.1 (turn-fed w n one.0 h one.2 fed) (turn-fed w n other.0 g other.2 also) in
    turn-same w n one.0 h g one.2 (subst (λ (m : List Event). TakesTurn w n m g) (sym mid) other.2) fed also

-- and the turns of all halls
turns-same : (w n : ℕ) (pasts hs gs : List (List Event)) → AllTurn w n pasts hs → AllTurn w n pasts gs → ((m : ℕ) → IsFed (hall_at hs m)) → ((m : ℕ) → IsFed (hall_at gs m)) → hs ≡ gs
turns-same w n [] [] [] one other fed also = refl
turns-same w n [] [] (g ∷ gs) one other fed also = absurd other
turns-same w n [] (h ∷ hs) gs one other fed also = absurd one
turns-same w n (past ∷ pasts) [] gs one other fed also = absurd one
turns-same w n (past ∷ pasts) (h ∷ hs) [] one other fed also = absurd other
turns-same w n (past ∷ pasts) (h ∷ hs) (g ∷ gs) one other fed also =
    ap₂ (λ (x : List Event) (xs : List (List Event)). x ∷ xs) (turn-same w n past h g one.0 other.0 (fed 0) (also 0)) (turns-same w n pasts hs gs one.1 other.1 (λ m. fed (suc m)) (λ m. also (suc m)))

turns-fed : (w n : ℕ) (pasts hs : List (List Event)) → AllTurn w n pasts hs → ((m : ℕ) → IsFed (hall_at hs m)) → (m : ℕ) → IsFed (hall_at pasts m)
turns-fed w n [] hs turns fed m = refl
turns-fed w n (past ∷ pasts) [] turns fed m = absurd turns
turns-fed w n (past ∷ pasts) (h ∷ hs) turns fed zero = turn-fed w n past h turns.0 (fed 0)
turns-fed w n (past ∷ pasts) (h ∷ hs) turns fed (suc m) = turns-fed w n pasts hs turns.1 (λ i. fed (suc i)) m

-- a job that goes on leaves each history longer
goes-fed : (chosen : Option Key) (from : ℕ) (c : Cluster) → AreFed (goes chosen from c) → AreFed c
goes-fed None from c fed = fed
goes-fed (Some k) from c fed = by_test (may_come k (hall_at c.halls (next_hall from c))) fed
  where
    to : ℕ
    to = next_hall from c

    by_test : (b : Bool) → AreFed (cond b (went k from to c) c) → AreFed c
    by_test false q n = q n
    by_test true q n =
        went-each (λ m h. IsFed h → IsFed (hall_at c.halls m)) c k from to (λ m e. e)
        (front-fed (hall_at c.halls from) (Leave k ∷ []))
        (front-fed (hall_at c.halls to) (Arrive k (brought_by k (hall_at c.halls from)) ∷ [])) n (q n)

carried-fed : (chosen : List (Option Key)) (from : ℕ) (c : Cluster) → AreFed (carried chosen from c) → AreFed c
carried-fed [] from c fed = fed
carried-fed (k ∷ ks) from c fed = goes-fed k from c (carried-fed ks (from + 1) (goes k from c) fed)

round-fed : (every : ℕ) (c next : Cluster) (round : IsRound every c next) → AreFed next → AreFed (record c { halls = round.mids })
round-fed every c next round fed = carried-fed (map first_live round.mids) 0 (record c { halls = round.mids }) (subst AreFed round.moved fed)

rounds-fed : (every : ℕ) (c : Cluster) (rounds : List Cluster) (end : Cluster) → AreRounds every c rounds end → AreFed end → AreFed c
rounds-fed every c [] end are fed = subst AreFed are.0 fed
rounds-fed every c (next ∷ rest) end are fed = turns-fed c.workers every c.halls are.1.mids are.1.turned (round-fed every c next are.1 (rounds-fed every next rest end are.2 fed))

-- so the rounds are decided
round-same : (every : ℕ) (c one other : Cluster) → IsRound every c one → IsRound every c other → AreFed one → AreFed other → one ≡ other
round-same every c one other round again fed also =
    let mids : round.mids ≡ again.mids = turns-same c.workers every c.halls round.mids again.mids round.turned again.turned (round-fed every c one round fed) (round-fed every c other again also) in
    round.moved ∙ (ap (λ (hs : List (List Event)). carried (map first_live hs) 0 (record c { halls = hs })) mids ∙ sym again.moved)

rounds-same : (every : ℕ) (c : Cluster) (rounds others : List Cluster) (one other : Cluster) → AreRounds every c rounds one → AreRounds every c others other → AreFed one → AreFed other → one ≡ other
rounds-same every c [] [] one other are also fed full = are.0 ∙ sym also.0
rounds-same every c [] (y ∷ ys) one other are also fed full = absurd (both_ways (is_live c) are.1 also.0)
rounds-same every c (x ∷ xs) [] one other are also fed full = absurd (both_ways (is_live c) also.1 are.0)
rounds-same every c (x ∷ xs) (y ∷ ys) one other are also fed full =
    let same : x ≡ y = round-same every c x y are.1 also.1 (rounds-fed every x xs one are.2 fed) (rounds-fed every y ys other also.2 full) in
    rounds-same every x xs ys one other are.2 (subst (λ (z : Cluster). AreRounds every z ys other) (sym same) also.2) fed full

pub cluster_is_decided : ClusterIsDecided
cluster_is_decided halls workers every s rounds others one other log_one log_other out_one out_other run ran fed also =
    let same : one ≡ other = rounds-same every (posted halls workers s) rounds others one other run.rounds_are ran.rounds_are fed also in
    record {
      ends = same;
      logs = run.log_text ∙ (ap histories_text same ∙ sym ran.log_text);
      outs = run.out_text ∙ (ap (cluster_replies s) same ∙ sym ran.out_text);
    }
