-- A job of a cluster that always asks for one worker is run by one node, wherever it is.
use Rattle.std.proofs.Common.{◌≡◌, ◌⊎◌, ℕ, ◌+◌, Bool, true, false, cond, ◌||◌, List, [], ◌∷◌, ◌++◌, length, drop, inl, inr, refl, sym, ◌∙◌, ap, subst, arith, append_assoc, append-nil}
use Rattle.std.specs.List.{list_all, list_any}
use Rattle.std.proofs.Math.Seq.{drop-append-add}
use Rattle.std.proofs.lemmas.Bool.{both_ways, or_left, or_parts, or_right}
use Rattle.mal_revision.specs.Posted.{Posted}
use Rattle.spec_job.specs.DemandOne.{is_single, AgreeAll}
use Rattle.spec_job.specs.KeyedJob.{Key}
use Rattle.spec_job.specs.SoloMachine.{Own, solo}
use Rattle.spec_job.specs.Unknown.{is_fed}
use Rattle.spec_hall.specs.Events.{Event, Arrive}
use Rattle.spec_hall.specs.Laws.{AsksForOne}
use Rattle.spec_hall.specs.Legal.{Legal, LegalFrom, MayArrive}
use Rattle.spec_hall.specs.Own.{arrives, is_key, leaves, own}
use Rattle.spec_hall.proofs.KeyLemmas.{is_key-same}
use Rattle.spec_hall.proofs.MovedLemmas.{own-goes_on}
use Rattle.spec_hall.proofs.OnceLemmas.{IsOnce}
use Rattle.spec_hall.proofs.OrderlyLemmas.{legal-orderly, orderly-push}
use Rattle.spec_hall.proofs.PushLemmas.{names-push, own-push}
use Rattle.spec_hall.proofs.SingleLemmas.{IsHere, event-once, legal-singles_agree}
use Rattle.spec_cluster.specs.Clusters.{AreLeft, Cluster, HasArrived, IsAtHome, IsCluster, IsStay, done_in, is_named, is_there}
use Rattle.spec_cluster.specs.Laws.{DidForOne, SinglesAgree}
use Rattle.spec_cluster.specs.Visits.{Visit, all_of, hall_at, since, stayed, unless, until_leave}
use Rattle.spec_cluster.proofs.NameLemmas.{named-append, named-by, unnamed-left, unnamed-there}
use Rattle.spec_cluster.proofs.StayLemmas.{done-push, legal-arrived, legal_from-parts}
use Rattle.spec_cluster.proofs.StayedLemmas.{by-home, own-is_all}
use Rattle.spec_cluster.proofs.VisitLemmas.{stay-all}

-- a stay's events begin those of its hall
until-front : (k : Key) (es : List Event) → (rest : List Event) × (es ≡ until_leave k es ++ rest)
until-front k [] = ([], refl)
until-front k (e ∷ es) = by_test (leaves k e) (until-front k es)
  where
    by_test : (b : Bool) → ((rest : List Event) × (es ≡ until_leave k es ++ rest)) → (rest : List Event) × (e ∷ es ≡ (e ∷ unless b (until_leave k es)) ++ rest)
    by_test true front = (es, refl)
    by_test false front = (front.0, ap (λ (xs : List Event). e ∷ xs) front.1)

-- its leave is among them
until-leaves : (k : Key) (es : List Event) → list_any (leaves k) es ≡ true → list_any (leaves k) (until_leave k es) ≡ true
until-leaves k [] gone = gone
until-leaves k (e ∷ es) gone = by_test (leaves k e) gone (until-leaves k es)
  where
    by_test : (b : Bool) → (b || list_any (leaves k) es) ≡ true → (list_any (leaves k) es ≡ true → list_any (leaves k) (until_leave k es) ≡ true) → (b || list_any (leaves k) (unless b (until_leave k es))) ≡ true
    by_test true q rest = refl
    by_test false q rest = rest q

-- events that are no arrival of a job keep what it is
here-on : (w : ℕ) (k : Key) (past es : List Event) → LegalFrom w past es → IsHere k past → list_any (arrives k) es ≡ false → IsHere k (past ++ es)
here-on w k past [] legal here none = subst (IsHere k) (sym (append-nil past)) here
here-on w k past (e ∷ es) legal here none =
    let parts = or_parts (arrives k e) (list_any (arrives k) es) none in
    subst (IsHere k) (append_assoc past (e ∷ []) es) (here-on w k (past ++ e ∷ []) es legal.1 (record {
      orderly = orderly-push w past e legal.0 here.orderly;
      once = λ named. subst IsOnce (sym (own-push k past e)) (event-once w past k e legal.0 parts.0 here (ap (list_any (is_key k)) (sym (names-push past e)) ∙ named));
    }) parts.1)

-- what a job did before a stay: nothing, or as one that is run by one node if it always asks for one worker
abbrev pub OnceBefore : Key → List (List Event) → List Visit → Type 0
OnceBefore k halls before = (before ≡ []) ⊎ IsOnce (done_in k halls before)

module _ (w : ℕ) (k : Key) (halls : List (List Event)) (legal : (n : ℕ) → Legal w (hall_at halls n)) where
  -- with a stay more
  first-once : (before : List Visit) (v : Visit) → before ≡ [] → v.from ≡ 0 → list_any (arrives k) (until_leave k (since halls v)) ≡ false → is_named k (until_leave k (since halls v)) ≡ true → IsOnce (done_in k halls (before ++ v ∷ []))
  first-once before v none start once named =
      let stay = until_leave k (since halls v) in
      let front = until-front k (since halls v) in
      let whole : hall_at halls v.hall ≡ stay ++ front.0 = ap (λ (n : ℕ). drop n (hall_at halls v.hall)) (sym start) ∙ front.1 in
      let begun : LegalFrom w [] stay = (legal_from-parts w [] stay front.0 (subst (Legal w) whole (legal v.hall))).0 in
      let here : IsHere k stay = here-on w k [] stay begun (record { orderly = legal-orderly w [] tt; once = λ came. absurd (both_ways false refl came) }) once in
      subst IsOnce (sym (done-push k halls before v ∙ ap (λ (vs : List Visit). done_in k halls vs ++ stayed k halls v) none)) (here.once named)

  arrived-once : (before : List Visit) (v : Visit) → HasArrived k (hall_at halls v.hall) v.from (done_in k halls before) → OnceBefore k halls before → list_any (arrives k) (until_leave k (since halls v)) ≡ false → IsOnce (done_in k halls (before ++ v ∷ []))
  arrived-once before v arrived before-once once =
      let brought = done_in k halls before in
      let stay = until_leave k (since halls v) in
      let front = until-front k (since halls v) in
      let came = arrived.past ++ Arrive k brought ∷ [] in
      let later : since halls v ≡ arrived.later = ap (λ (n : ℕ). drop n (hall_at halls v.hall)) arrived.place ∙ (ap (drop (length arrived.past + 1)) arrived.parts ∙ drop-append-add arrived.past (Arrive k brought ∷ arrived.later) 1) in
      let whole : hall_at halls v.hall ≡ came ++ (stay ++ front.0) = arrived.parts ∙ (sym (append_assoc arrived.past (Arrive k brought ∷ []) arrived.later) ∙ ap (λ (es : List Event). came ++ es) (sym later ∙ front.1)) in
      let parts = legal_from-parts w [] came (stay ++ front.0) (subst (Legal w) whole (legal v.hall)) in
      let may : MayArrive arrived.past k brought = legal-arrived w k arrived.past [] brought parts.0 in
      let mine : own k came ≡ brought = own-push k arrived.past (Arrive k brought) ∙ ap (λ (b : Bool). cond b brought (own k arrived.past)) (is_key-same k) in
      let here : IsHere k (came ++ stay) = here-on w k came stay (legal_from-parts w came stay front.0 parts.1).0 (record { orderly = legal-orderly w came parts.0; once = λ named. subst IsOnce (sym mine) (lawful-once may before-once) }) once in
      let named : is_named k (came ++ stay) ≡ true = named-append k came stay ∙ or_left (is_named k came) _ (named-append k arrived.past (Arrive k brought ∷ []) ∙ or_right (is_named k arrived.past) (is_key k k || false) (or_left (is_key k k) false (is_key-same k))) in
      let all : own k (came ++ stay) ≡ done_in k halls (before ++ v ∷ []) = ap (own k) (append_assoc arrived.past (Arrive k brought ∷ []) stay) ∙ (own-goes_on k arrived.past stay brought may.still once ∙ sym (done-push k halls before v)) in
      subst IsOnce all (here.once named)
    where
      lawful-once : MayArrive arrived.past k (done_in k halls before) → OnceBefore k halls before → IsOnce (done_in k halls before)
      lawful-once may (inl none) = absurd (subst (λ (vs : List Visit). MayArrive arrived.past k (done_in k halls vs)) none may).lawful
      lawful-once may (inr is) = is

  stay-once : (before : List Visit) (v : Visit) (left : Bool) → IsStay k halls before v left → OnceBefore k halls before → (v.from ≡ 0 → is_named k (until_leave k (since halls v)) ≡ true) → IsOnce (done_in k halls (before ++ v ∷ []))
  stay-once before v left stay before-once named = elim stay.begins [ inl first ↦ first-once before v first.0 first.1 stay.once (named first.1) | inr arrived ↦ arrived-once before v arrived before-once stay.once ]

  -- a job that left a stay from the beginning had its name there
  left-named : (v : Visit) → list_any (leaves k) (since halls v) ≡ true → v.from ≡ 0 → is_named k (until_leave k (since halls v)) ≡ true
  left-named v ends start =
      let stay = until_leave k (since halls v) in
      let front = until-front k (since halls v) in
      let whole : hall_at halls v.hall ≡ stay ++ front.0 = ap (λ (n : ℕ). drop n (hall_at halls v.hall)) (sym start) ∙ front.1 in
      named-by k stay (list_any (leaves k) stay) (unnamed-left w k stay (legal_from-parts w [] stay front.0 (subst (Legal w) whole (legal v.hall))).0) (until-leaves k (since halls v) ends)

  left-once : (before vs : List Visit) → AreLeft k halls before vs → OnceBefore k halls before → OnceBefore k halls (before ++ vs)
  left-once before [] left once = subst (OnceBefore k halls) (sym (append-nil before)) once
  left-once before (v ∷ vs) left once = subst (OnceBefore k halls) (append_assoc before (v ∷ []) vs) (left-once (before ++ v ∷ []) vs left.1 (inr (stay-once before v true left.0 once (left-named v left.0.ends))))

-- so is all that a job did which is there
home-once : (c : Cluster) (k : Key) (n : ℕ) → IsCluster c → is_there k (hall_at c.halls n) ≡ true → IsAtHome c k n → IsOnce (all_of k c.halls c.moves)
home-once c k n is there home =
    subst (λ (vs : List Visit). IsOnce (done_in k c.halls vs)) (sym home.stays) (stay-once c.workers k c.halls is.legal home.gone home.last false home.here (left-once c.workers k c.halls is.legal [] home.gone home.left (inl refl)) named)
  where
    named : home.last.from ≡ 0 → is_named k (until_leave k (since c.halls home.last)) ≡ true
    named start =
        let whole : hall_at c.halls n ≡ until_leave k (since c.halls home.last) = ap (hall_at c.halls) (sym home.hall) ∙ (ap (λ (m : ℕ). drop m (hall_at c.halls home.last.hall)) (sym start) ∙ sym (stay-all k (since c.halls home.last) home.here.ends)) in
        subst (λ (h : List Event). is_named k h ≡ true) whole (named-by k (hall_at c.halls n) (is_there k (hall_at c.halls n)) (unnamed-there k (hall_at c.halls n)) there)

-- its hall knows that it asks for one worker
home-asks : (c : Cluster) (k : Key) (n : ℕ) → IsCluster c → is_there k (hall_at c.halls n) ≡ true → DidForOne (own k (hall_at c.halls n)) → AsksForOne (hall_at c.halls n) k
home-asks c k n is there did =
    let once : IsOnce (own k (hall_at c.halls n)) = subst IsOnce (sym (own-is_all c k n is there)) (home-once c k n is there (is.at_home k n there)) in
    let rest : list_all is_fed once.begun.rest ≡ true = ap (list_all is_fed) (sym once.begun.is) ∙ did.fed in
    record { demand = did.demand; always = did.always; fed = did.fed; single = ap (λ (es : List Own). list_all is_single (drop 1 es)) once.begun.is ∙ once.single did.always rest }

-- what two jobs have that agree
pub record AreAlike (did other : List Own) (more : List Posted) : Type 0 where
  pub slices : (solo did).ask.slices ≡ (solo other).ask.slices
  pub profile : (solo did).ask.profile ≡ (solo other).ask.profile
  pub revisions : (solo other).revisions ≡ (solo did).revisions ++ more

pub singles-agree : SinglesAgree
singles-agree c k others other more is did legal asks slices profile revisions =
    by-home c k is (λ os. DidForOne os → AreAlike os (own k other) more → AgreeAll (solo os) (solo (own k other)))
    (λ n there for_one alike. legal-singles_agree k c.workers others (hall_at c.halls n) other more (is.legal n) legal (home-asks c k n is there for_one) asks alike.slices alike.profile alike.revisions)
    (λ for_one alike. absurd (nothing (solo []).ask.demand refl for_one.demand))
    did
    (record { slices = slices; profile = profile; revisions = revisions })
  where
    nothing : (n : ℕ) → n ≡ 0 → n ≡ 1 → ⊥
    nothing n p q = omega arith
