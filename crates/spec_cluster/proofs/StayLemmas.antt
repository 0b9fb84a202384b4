-- Stays of a job in halls whose histories grow.
use Rattle.std.proofs.Common.{◌≡◌, ℕ, ◌+◌, ◌≤◌, true, false, List, [], ◌∷◌, ◌++◌, length, drop, inl, inr, refl, sym, ◌∙◌, ap, subst, arith, append_assoc, append-nil, length-append}
use Rattle.std.specs.List.{list_any}
use Rattle.std.proofs.Math.Seq.{drop-append-add}
use Rattle.std.proofs.lemmas.Bool.{or_from, or_left}
use Rattle.std.proofs.lemmas.Grind.{flat_map-append}
use Rattle.std.proofs.lemmas.List.{drop-append-le}
use Rattle.std.proofs.lemmas.List.Folds.{list_any-append}
use Rattle.spec_job.specs.KeyedJob.{Key}
use Rattle.spec_job.specs.SoloMachine.{Own}
use Rattle.spec_hall.specs.Events.{Event, Arrive}
use Rattle.spec_hall.specs.Legal.{Legal, LegalFrom, MayArrive}
use Rattle.spec_hall.specs.Own.{own, arrives, leaves, volume_after}
use Rattle.spec_hall.proofs.MovedLemmas.{own-goes_on}
use Rattle.spec_cluster.specs.Clusters.{Cluster, AreLeft, Begins, HasArrived, IsAtHome, IsStay, done_in}
use Rattle.spec_cluster.specs.Visits.{Visit, hall_at, since, until_leave, stayed, visits, all_of}
use Rattle.spec_cluster.proofs.VisitLemmas.{stay-all, stay-ends}

-- a history begins with another
abbrev pub GrowsTo : List Event → List Event → Type 0
GrowsTo before after = (later : List Event) × (after ≡ before ++ later)

-- the history of each hall does
abbrev pub AllGrowTo : List (List Event) → List (List Event) → Type 0
AllGrowTo halls others = (n : ℕ) → GrowsTo (hall_at halls n) (hall_at others n)

-- a history begins with another, and the job neither leaves nor arrives after that
pub record GrewWithout (k : Key) (before after : List Event) : Type 0 where
  pub later : List Event
  pub grown : after ≡ before ++ later
  pub stays : list_any (leaves k) later ≡ false
  pub alone : list_any (arrives k) later ≡ false

-- what is legal has two legal parts
pub legal_from-parts : (w : ℕ) (past es later : List Event) → LegalFrom w past (es ++ later) → LegalFrom w past es × LegalFrom w (past ++ es) later
legal_from-parts w past [] later legal = (tt, subst (λ (h : List Event). LegalFrom w h later) (sym (append-nil past)) legal)
legal_from-parts w past (e ∷ es) later legal =
    let rest = legal_from-parts w (past ++ e ∷ []) es later legal.1 in
    ((legal.0, rest.0), subst (λ (h : List Event). LegalFrom w h later) (append_assoc past (e ∷ []) es) rest.1)

-- so an arrival in it was allowed
pub legal-arrived : (w : ℕ) (k : Key) (past later : List Event) (brought : List Own) → Legal w (past ++ Arrive k brought ∷ later) → MayArrive past k brought
legal-arrived w k past later brought legal = (legal_from-parts w [] past (Arrive k brought ∷ later) legal).1.0

-- one stay more
pub done-push : (k : Key) (halls : List (List Event)) (vs : List Visit) (v : Visit) → done_in k halls (vs ++ v ∷ []) ≡ done_in k halls vs ++ stayed k halls v
done-push k halls vs v = flat_map-append (stayed k halls) vs (v ∷ []) ∙ ap (λ (os : List Own). done_in k halls vs ++ os) (append-nil (stayed k halls v))

-- a stay begins within the history of its hall
pub begins-within : (k : Key) (halls : List (List Event)) (before : List Visit) (v : Visit) → Begins k halls before v → v.from ≤ length (hall_at halls v.hall)
begins-within k halls before v begins = elim begins [ inl first ↦ low v.from first.1 | inr arrived ↦ within arrived ]
  where
    low : (n : ℕ) → n ≡ 0 → n ≤ length (hall_at halls v.hall)
    low n e = omega arith

    within : HasArrived k (hall_at halls v.hall) v.from (done_in k halls before) → v.from ≤ length (hall_at halls v.hall)
    within arrived =
        let place = arrived.place in
        let parts = ap (λ (h : List Event). length h) arrived.parts ∙ length-append arrived.past (Arrive k (done_in k halls before) ∷ arrived.later) in
        omega (arith, place, parts)

-- the events since then grow with the history
pub since-grows : (halls others : List (List Event)) (v : Visit) → v.from ≤ length (hall_at halls v.hall) → (g : GrowsTo (hall_at halls v.hall) (hall_at others v.hall)) → since others v ≡ since halls v ++ g.0
since-grows halls others v low g = ap (drop v.from) g.1 ∙ drop-append-le v.from (hall_at halls v.hall) g.0 low

pub begins-grows : (k : Key) (halls others : List (List Event)) (before : List Visit) (v : Visit) → Begins k halls before v → GrowsTo (hall_at halls v.hall) (hall_at others v.hall) → done_in k others before ≡ done_in k halls before → Begins k others before v
begins-grows k halls others before v begins g same = elim begins [ inl first ↦ inl first | inr arrived ↦ inr (subst (λ (os : List Own). HasArrived k (hall_at others v.hall) v.from os) (sym same) (grown arrived)) ]
  where
    grown : HasArrived k (hall_at halls v.hall) v.from (done_in k halls before) → HasArrived k (hall_at others v.hall) v.from (done_in k halls before)
    grown arrived = record {
      past = arrived.past;
      later = arrived.later ++ g.0;
      parts = g.1 ∙ (ap (λ (h : List Event). h ++ g.0) arrived.parts ∙ append_assoc arrived.past (Arrive k (done_in k halls before) ∷ arrived.later) g.0);
      place = arrived.place;
    }

-- a stay that a job has left stays as it was
until-same : (k : Key) (halls others : List (List Event)) (before : List Visit) (v : Visit) → IsStay k halls before v true → GrowsTo (hall_at halls v.hall) (hall_at others v.hall) → until_leave k (since others v) ≡ until_leave k (since halls v)
until-same k halls others before v stay g = ap (until_leave k) (since-grows halls others v (begins-within k halls before v stay.begins) g) ∙ stay-ends k (since halls v) g.0 stay.ends

stay-kept : (k : Key) (halls others : List (List Event)) (before : List Visit) (v : Visit) → IsStay k halls before v true → GrowsTo (hall_at halls v.hall) (hall_at others v.hall) → done_in k others before ≡ done_in k halls before → IsStay k others before v true
stay-kept k halls others before v stay g same = record {
  begins = begins-grows k halls others before v stay.begins g same;
  once = ap (list_any (arrives k)) (until-same k halls others before v stay g) ∙ stay.once;
  ends = ap (list_any (leaves k)) (since-grows halls others v (begins-within k halls before v stay.begins) g) ∙ (list_any-append (leaves k) (since halls v) g.0 ∙ or_left (list_any (leaves k) (since halls v)) (list_any (leaves k) g.0) stay.ends);
}

-- so do all
pub record AreKept (k : Key) (halls others : List (List Event)) (before vs : List Visit) : Type 0 where
  pub left : AreLeft k others before vs
  pub same : done_in k others vs ≡ done_in k halls vs

pub all-kept : (k : Key) (halls others : List (List Event)) (before vs : List Visit) → AreLeft k halls before vs → AllGrowTo halls others → done_in k others before ≡ done_in k halls before → AreKept k halls others before vs
all-kept k halls others before [] left grows same = record { left = tt; same = refl }
all-kept k halls others before (v ∷ vs) left grows same =
    let did : stayed k others v ≡ stayed k halls v = ap (own k) (until-same k halls others before v left.0 (grows v.hall)) in
    let more : done_in k others (before ++ v ∷ []) ≡ done_in k halls (before ++ v ∷ []) = done-push k others before v ∙ (ap (λ (os : List Own). os ++ stayed k others v) same ∙ (ap (λ (os : List Own). done_in k halls before ++ os) did ∙ sym (done-push k halls before v))) in
    let rest = all-kept k halls others (before ++ v ∷ []) vs left.1 grows more in
    record {
      left = (stay-kept k halls others before v left.0 (grows v.hall) same, rest.left);
      same = ap (λ (os : List Own). os ++ done_in k others vs) did ∙ ap (λ (os : List Own). stayed k halls v ++ os) rest.same;
    }

-- one more stay that a job has left
pub left-push : (k : Key) (halls : List (List Event)) (before vs : List Visit) (v : Visit) → AreLeft k halls before vs → IsStay k halls (before ++ vs) v true → AreLeft k halls before (vs ++ v ∷ [])
left-push k halls before [] v left stay = (subst (λ (us : List Visit). IsStay k halls us v true) (append-nil before) stay, tt)
left-push k halls before (u ∷ us) v left stay = (left.0, left-push k halls (before ++ u ∷ []) us v left.1 (subst (λ (xs : List Visit). IsStay k halls xs v true) (sym (append_assoc before (u ∷ []) us)) stay))

-- a stay goes on where the job neither leaves nor arrives
stay-goes : (k : Key) (halls others : List (List Event)) (before : List Visit) (v : Visit) → IsStay k halls before v false → GrewWithout k (hall_at halls v.hall) (hall_at others v.hall) → done_in k others before ≡ done_in k halls before → IsStay k others before v false
stay-goes k halls others before v stay g same = record {
  begins = begins-grows k halls others before v stay.begins (g.later, g.grown) same;
  once = ap (list_any (arrives k)) (ap (until_leave k) grown ∙ stay-all k (since halls v ++ g.later) stays) ∙ (list_any-append (arrives k) (since halls v) g.later ∙ or_from (list_any (arrives k) (since halls v)) (list_any (arrives k) g.later) (ap (list_any (arrives k)) (sym (stay-all k (since halls v) stay.ends)) ∙ stay.once) g.alone);
  ends = ap (list_any (leaves k)) grown ∙ stays;
}
  where
    grown : since others v ≡ since halls v ++ g.later
    grown = since-grows halls others v (begins-within k halls before v stay.begins) (g.later, g.grown)

    stays : list_any (leaves k) (since halls v ++ g.later) ≡ false
    stays = list_any-append (leaves k) (since halls v) g.later ∙ or_from (list_any (leaves k) (since halls v)) (list_any (leaves k) g.later) stay.ends g.stays

-- a job that is at home stays there while histories grow in which it neither leaves nor arrives at home
pub home-grows : (c after : Cluster) (k : Key) (n : ℕ) → IsAtHome c k n → visits k after.halls after.moves ≡ visits k c.halls c.moves → AllGrowTo c.halls after.halls → GrewWithout k (hall_at c.halls n) (hall_at after.halls n) → IsAtHome after k n
home-grows c after k n home same grows g =
    let kept = all-kept k c.halls after.halls [] home.gone home.left grows refl in
    record {
      gone = home.gone;
      last = home.last;
      stays = same ∙ home.stays;
      hall = home.hall;
      left = kept.left;
      here = stay-goes k c.halls after.halls home.gone home.last home.here (subst (λ (m : ℕ). GrewWithout k (hall_at c.halls m) (hall_at after.halls m)) (sym home.hall) g) kept.same;
    }

-- the own events of a hall are those of the stays before and of the stay in it, and what came before leaves no volume
pub record IsWhole (k : Key) (halls : List (List Event)) (before : List Visit) (v : Visit) : Type 0 where
  pub own_is : own k (hall_at halls v.hall) ≡ done_in k halls before ++ own k (since halls v)
  pub still : volume_after (done_in k halls before) ≡ 0

pub stay-whole : (w : ℕ) (k : Key) (halls : List (List Event)) (before : List Visit) (v : Visit) → Legal w (hall_at halls v.hall) → IsStay k halls before v false → IsWhole k halls before v
stay-whole w k halls before v legal stay = elim stay.begins [ inl first ↦ from-first first.0 first.1 | inr arrived ↦ from-arrival arrived ]
  where
    from-first : before ≡ [] → v.from ≡ 0 → IsWhole k halls before v
    from-first none start = record {
      own_is = sym (ap (λ (vs : List Visit). done_in k halls vs ++ own k (since halls v)) none ∙ ap (λ (n : ℕ). own k (drop n (hall_at halls v.hall))) start);
      still = ap (λ (vs : List Visit). volume_after (done_in k halls vs)) none;
    }

    from-arrival : HasArrived k (hall_at halls v.hall) v.from (done_in k halls before) → IsWhole k halls before v
    from-arrival arrived =
        let brought = done_in k halls before in
        let still : volume_after brought ≡ 0 = (legal-arrived w k arrived.past arrived.later brought (subst (Legal w) arrived.parts legal)).still in
        let later : since halls v ≡ arrived.later = ap (λ (n : ℕ). drop n (hall_at halls v.hall)) arrived.place ∙ (ap (drop (length arrived.past + 1)) arrived.parts ∙ drop-append-add arrived.past (Arrive k brought ∷ arrived.later) 1) in
        let alone : list_any (arrives k) arrived.later ≡ false = ap (list_any (arrives k)) (sym later ∙ sym (stay-all k (since halls v) stay.ends)) ∙ stay.once in
        record { own_is = ap (own k) arrived.parts ∙ (own-goes_on k arrived.past arrived.later brought still alone ∙ ap (λ (es : List Event). brought ++ own k es) (sym later)); still = still }

-- so they are all that the job did
pub home-own : (c : Cluster) (k : Key) (n : ℕ) → Legal c.workers (hall_at c.halls n) → IsAtHome c k n → own k (hall_at c.halls n) ≡ all_of k c.halls c.moves
home-own c k n legal home =
    let whole = stay-whole c.workers k c.halls home.gone home.last (subst (λ (m : ℕ). Legal c.workers (hall_at c.halls m)) (sym home.hall) legal) home.here in
    let did : own k (since c.halls home.last) ≡ stayed k c.halls home.last = ap (own k) (sym (stay-all k (since c.halls home.last) home.here.ends)) in
    ap (λ (m : ℕ). own k (hall_at c.halls m)) (sym home.hall)
    ∙ (whole.own_is
    ∙ (ap (λ (os : List Own). done_in k c.halls home.gone ++ os) did
    ∙ (sym (done-push k c.halls home.gone home.last) ∙ ap (done_in k c.halls) (sym home.stays))))
