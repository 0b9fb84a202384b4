-- The answers of jobs stay in a cluster.
use Rattle.std.proofs.Common.{◌≡◌, ◌≢◌, ℕ, suc, ◌+◌, ◌-◌, ◌<◌, Bool, true, false, cond, List, [], ◌∷◌, ◌++◌, length, flat_map, inl, inr, Option, Some, None, Result, Ok, Err, refl, sym, ◌∙◌, ap, subst, arith}
use Rattle.std.specs.List.{list_any}
use Rattle.std.proofs.lemmas.Bool.{or_right}
use Rattle.spec_job.specs.KeyedJob.{Key}
use Rattle.spec_job.specs.Models.{KeepsAnswers}
use Rattle.spec_job.specs.SoloMachine.{Own, Volume, solo}
use Rattle.spec_job.proofs.StayLemmas.{push-stays, stays-self}
use Rattle.spec_hall.specs.Events.{Event, Arrive}
use Rattle.spec_hall.specs.Legal.{MayArrive}
use Rattle.spec_hall.specs.Own.{adds_volume, is_key, own, brought_by}
use Rattle.spec_hall.proofs.IsolationLemmas.{job_answers-stay}
use Rattle.spec_hall.proofs.KeyLemmas.{is_key-Decides, is_key-same}
use Rattle.spec_hall.proofs.PushLemmas.{adds_volume-keeps, own-push}
use Rattle.spec_run.specs.Run.{IsEvident}
use Rattle.spec_run.proofs.Evidence.{evident_by_law}
use Rattle.spec_cluster.specs.declared.fault.MoveFault.{MoveFault}
use Rattle.spec_cluster.specs.declared.fault.MoveFault.TheVariants as moving
use Rattle.spec_cluster.specs.Calls.{IsMoving, went}
use Rattle.spec_cluster.specs.Clusters.{Cluster, IsCluster, IsUnknown, home, is_there}
use Rattle.spec_cluster.specs.Laws.{AllIsEvident, AnswersStay, CallsHave, Grows, HasGrown, KeepsAll, OwnIsAll, grown}
use Rattle.spec_cluster.specs.Visits.{Visit, all_of, hall_at, opened_in, opens, stayed, until_leave}
use Rattle.spec_cluster.proofs.CallKeepLemmas.{calls-have}
use Rattle.spec_cluster.proofs.GrowthLemmas.{grew, growth-keeps, still-there}
use Rattle.spec_cluster.proofs.HallLemmas.{IsHome, home-found, home-none}
use Rattle.spec_cluster.proofs.MoveLemmas.{come-keys, grew-other, there-now, there-still, try-places, went-is}
use Rattle.spec_cluster.proofs.NameLemmas.{fresh-at, unnamed-open}
use Rattle.spec_cluster.proofs.StayLemmas.{GrewWithout, home-own}

-- a hall's own events of a job that is there are all that the job did
pub own-is_all : OwnIsAll
own-is_all c k n is there = home-own c k n (is.legal n) (is.at_home k n there)

-- the place after the last hall has no events
opened-nowhere : (k : Key) (halls : List (List Event)) → ((m : ℕ) → list_any (opens k) (hall_at halls m) ≡ false) → hall_at halls (opened_in k halls) ≡ []
opened-nowhere k [] none = refl
opened-nowhere k (h ∷ hs) none = ap (λ (b : Bool). hall_at (h ∷ hs) (cond b 0 (opened_in k hs + 1))) (none 0) ∙ (ap (hall_at (h ∷ hs)) (add-one (opened_in k hs)) ∙ opened-nowhere k hs (λ m. none (suc m)))
  where
    add-one : (n : ℕ) → n + 1 ≡ suc n
    add-one n = omega arith

-- a job that no hall ever had did nothing
pub unknown-did : (c : Cluster) (k : Key) → IsUnknown c k → all_of k c.halls c.moves ≡ []
unknown-did c k is = ap (λ (vs : List Visit). stayed k c.halls (record { hall = opened_in k c.halls; from = 0 }) ++ flat_map (stayed k c.halls) vs) is.still ∙ ap (λ (h : List Event). own k (until_leave k h) ++ []) (opened-nowhere k c.halls (λ m. unnamed-open k (hall_at c.halls m) (fresh-at k c.halls m is.fresh)))

-- what holds of all that a job did, where it is there and where it is unknown
pub by-home : (c : Cluster) (k : Key) → IsCluster c → (P : List Own → Type 0) → ((n : ℕ) → is_there k (hall_at c.halls n) ≡ true → P (own k (hall_at c.halls n))) → P [] → P (all_of k c.halls c.moves)
by-home c k is P there none = by_place (home k c.halls) refl
  where
    by_place : (o : Option ℕ) → home k c.halls ≡ o → P (all_of k c.halls c.moves)
    by_place None q = subst P (sym (unknown-did c k (is.unknown k (home-none k c.halls q)))) none
    by_place (Some n) q =
        let found = home-found k c.halls n q in
        subst P (own-is_all c k n is found.there) (there n found.there)

-- an empty list of answers stays
none-stays : (es : List Own) → KeepsAnswers (solo []) (solo es)
none-stays es = record { more = (solo es).answers; kept = refl }

-- the answers of a job that is there in both, where its own events of the one hall keep those of the other
there-stays : (c after : Cluster) (k : Key) (m n : ℕ) → IsCluster after → is_there k (hall_at after.halls n) ≡ true → KeepsAnswers (solo (own k (hall_at c.halls m))) (solo (own k (hall_at after.halls n))) → KeepsAnswers (solo (own k (hall_at c.halls m))) (solo (all_of k after.halls after.moves))
there-stays c after k m n is there keeps = subst (λ (es : List Own). KeepsAnswers (solo (own k (hall_at c.halls m))) (solo es)) (own-is_all after k n is there) keeps

grown-stays : (k : Key) (before after : List Event) → GrewWithout k before after → KeepsAnswers (solo (own k before)) (solo (own k after))
grown-stays k before after g = subst (λ (h : List Event). KeepsAnswers (solo (own k before)) (solo (own k h))) (sym g.grown) (job_answers-stay k before g.later g.alone)

events-stay : (c : Cluster) (n : ℕ) (es : List Event) → IsCluster c → Grows c n es → KeepsAll c (grown c n es)
events-stay c n es is g k = by-home c k is (λ os. KeepsAnswers (solo os) (solo (all_of k (grown c n es).halls c.moves)))
    (λ m there. there-stays c (grown c n es) k m m (growth-keeps c n es is g) (still-there c n es is g k m there) (grown-stays k (hall_at c.halls m) (hall_at (grown c n es).halls m) (grew c n es is g k m)))
    (none-stays (all_of k (grown c n es).halls c.moves))

-- a volume leaves the answers
volume-stays : (v : ℕ) (es : List Own) → KeepsAnswers (solo es) (solo (adds_volume v es))
volume-stays v es = adds_volume-keeps (λ os. KeepsAnswers (solo es) (solo os)) v es (stays-self (solo es)) (push-stays es (Volume v))

module _ (c : Cluster) (k : Key) (a b : ℕ) (is : IsCluster c) (at : IsHome k c.halls a) (within : b < length c.halls) (other : b ≢ a) (may : MayArrive (hall_at c.halls b) k (brought_by k (hall_at c.halls a))) where
  -- the job that moved has in its new hall what it brought
  mover-there : is_there k (hall_at (went k a b c).halls b) ≡ true
  mover-there = ap (is_there k) (there-now c k a b is at within other may) ∙ (come-keys c k a b is at within other may k ∙ or_right (is_there k (hall_at c.halls b)) (is_key k k) (is_key-same k))

  mover-own : own k (hall_at (went k a b c).halls b) ≡ brought_by k (hall_at c.halls a)
  mover-own = ap (own k) (there-now c k a b is at within other may) ∙ (own-push k (hall_at c.halls b) (Arrive k (brought_by k (hall_at c.halls a))) ∙ ap (λ (x : Bool). cond x (brought_by k (hall_at c.halls a)) (own k (hall_at c.halls b))) (is_key-same k))

  went-stays : KeepsAll c (went k a b c)
  went-stays j = by-home c j is (λ os. KeepsAnswers (solo os) (solo (all_of j after.halls after.moves))) (λ m there. by_key m there (is_key j k) refl) (none-stays (all_of j after.halls after.moves))
    where
      after : Cluster
      after = went k a b c

      kept : IsCluster after
      kept = went-is c k a b is at within other may

      by_key : (m : ℕ) → is_there j (hall_at c.halls m) ≡ true → (x : Bool) → is_key j k ≡ x → KeepsAnswers (solo (own j (hall_at c.halls m))) (solo (all_of j after.halls after.moves))
      by_key m there false q = there-stays c after j m m kept (there-still c k a b is at within other may j q m there) (grown-stays j (hall_at c.halls m) (hall_at after.halls m) (grew-other c k a b is at within other may j q m))
      by_key m there true q =
          let same : j ≡ k = (is_key-Decides j k).0 q in
          let place : m ≡ a = is.one_home k m a (subst (λ (x : Key). is_there x (hall_at c.halls m) ≡ true) same there) at.there in
          subst (λ (x : Key). KeepsAnswers (solo (own x (hall_at c.halls m))) (solo (all_of x after.halls after.moves))) (sym same) (there-stays c after k m b kept mover-there (subst (λ (x : ℕ). KeepsAnswers (solo (own k (hall_at c.halls x))) (solo (own k (hall_at after.halls b)))) (sym place) (subst (λ (os : List Own). KeepsAnswers (solo (own k (hall_at c.halls a))) (solo os)) (sym mover-own) (volume-stays 0 (own k (hall_at c.halls a))))))

same-stays : (c after : Cluster) → after ≡ c → KeepsAll c after
same-stays c after same k = subst (λ (x : Cluster). KeepsAnswers (solo (all_of k c.halls c.moves)) (solo (all_of k x.halls x.moves))) (sym same) (stays-self (solo (all_of k c.halls c.moves)))

move-stays : (c after : Cluster) (k : Key) (to : ℕ) (answer : Result (Unit {0}) MoveFault) → IsCluster c → IsMoving c k to answer after → KeepsAll c after
move-stays c after k to (Ok done) is call j =
    let from = call.0 in
    let may = call.1.may in
    let places = try-places c k to from may in
    subst (λ (x : Cluster). KeepsAnswers (solo (all_of j c.halls c.moves)) (solo (all_of j x.halls x.moves))) (sym call.1.went_on) (went-stays c k from (to - 1) is (home-found k c.halls from may.there) places.0 places.1 call.1.arrives j)
move-stays c after k to (Err moving.NoJob) is call j = same-stays c after call.1 j
move-stays c after k to (Err moving.NoHall) is call j = same-stays c after call.2 j
move-stays c after k to (Err moving.Same) is call j = same-stays c after call.3 j
move-stays c after k to (Err moving.TenantFull) is call j = same-stays c after call.2 j
move-stays c after k to (Err moving.HallFull) is call j = same-stays c after call.2 j
move-stays c after k to (Err moving.OutOfMemory) is call j = same-stays c after call.2 j

calls-stay : CallsHave KeepsAll
calls-stay = calls-have KeepsAll stay
  where
    stay : (c after : Cluster) → IsCluster c → HasGrown c after → KeepsAll c after
    stay c after is grew k = elim grew [
      | inl same ↦ same-stays c after same k
      | inr more ↦ subst (λ (x : Cluster). KeepsAnswers (solo (all_of k c.halls c.moves)) (solo (all_of k x.halls x.moves))) (sym more.3) (events-stay c more.0 more.1 is more.2 k)
    ]

pub answers-stay : AnswersStay
answers-stay = record { events = events-stay; calls = calls-stay; move = move-stays }

-- the answers of each job are evidence
pub all-is_evident : AllIsEvident
all-is_evident c k is = by-home c k is IsEvident (λ n there. evident_by_law c.workers (hall_at c.halls n) (is.legal n) k) (evident_by_law c.workers [] tt k)
