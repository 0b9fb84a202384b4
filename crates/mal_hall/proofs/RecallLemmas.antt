-- Leases that are lost one by one.
use Rattle.std.proofs.Common.{◌≡◌, ℕ, zero, suc, ◌+◌, ◌-◌, ◌<◌, ◌≤◌, Bool, false, cond, List, [], ◌∷◌, ◌++◌, flat_map, Option, Some, None, is_some, inl, inr, ◌⊎◌, refl, sym, ◌∙◌, ap, subst, arith, append_assoc, append-nil}
use Rattle.std.specs.Option.{option_map_or}
use Rattle.std.specs.Prelude.{All}
use Rattle.std.proofs.lemmas.Bool.{cases_lt}
use Rattle.std.proofs.lemmas.List.Elements.{All-head}
use Rattle.mal_base.specs.declared.verdict.Outcome.TheVariants.{Lost}
use Rattle.spec_node.specs.Load.{counted}
use Rattle.spec_hall.specs.Calls.{HasCalled, Recalls, lost_of, recalled}
use Rattle.spec_hall.specs.Events.{Event, Finish}
use Rattle.spec_hall.specs.Legal.{Legal}
use Rattle.spec_hall.specs.Leases.{IsWorker}
use Rattle.spec_hall.specs.States.{LeaseOut, lease_of, leases}
use Rattle.std.proofs.lemmas.Bool.Decides.{Decides-eqb}
use Rattle.spec_hall.proofs.CallLemmas.{call-is_legal}
use Rattle.spec_hall.proofs.LeasesLemmas.{legal-leases, without}
use Rattle.spec_hall.proofs.PushLemmas.{leases-push}
use Rattle.spec_hall.proofs.SpotLemmas.{without-mine, without-other}
use Rattle.mal_hall.specs.Offered.{HasEnded}

-- what is still to be lost of the workers from one on
abbrev pub left_to_lose : ℕ → ℕ → List Event → List Event
left_to_lose workers first past = flat_map (lost_of (leases past)) (counted first (workers + 1 - first))

next-lost : (workers first : ℕ) (out : List LeaseOut) → first ≤ workers → flat_map (lost_of out) (counted first (workers + 1 - first)) ≡ lost_of out first ++ flat_map (lost_of out) (counted (first + 1) (workers + 1 - (first + 1)))
next-lost workers first out low =
    let more : workers + 1 - first ≡ suc (workers + 1 - (first + 1)) = omega (arith, low) in
    ap (λ (n : ℕ). flat_map (lost_of out) (counted first n)) more

same-lost : (one other : List LeaseOut) (first n : ℕ) → ((v : ℕ) → first ≤ v → lease_of v one ≡ lease_of v other) → flat_map (lost_of one) (counted first n) ≡ flat_map (lost_of other) (counted first n)
same-lost one other first zero same = refl
same-lost one other first (suc n) same =
    ap (λ (o : Option LeaseOut). option_map_or (λ l. Finish l.key l.index first Lost ∷ []) o [] ++ flat_map (lost_of one) (counted (first + 1) n)) (same first (omega arith))
    ∙ ap (λ (es : List Event). lost_of other first ++ es) (same-lost one other (first + 1) n (λ v low. same v (omega (arith, low))))

-- a worker without a lease loses none
pub lose-none : (workers first : ℕ) (past : List Event) → first ≤ workers → is_some (lease_of first (leases past)) ≡ false → past ++ left_to_lose workers (first + 1) past ≡ past ++ left_to_lose workers first past
lose-none workers first past low none = ap (λ (es : List Event). past ++ es) (sym (next-lost workers first (leases past) low ∙ ap (λ (es : List Event). es ++ left_to_lose workers (first + 1) past) (nothing (lease_of first (leases past)) refl none)))
  where
    nothing : (o : Option LeaseOut) → lease_of first (leases past) ≡ o → is_some o ≡ false → option_map_or (λ l. Finish l.key l.index first Lost ∷ []) o [] ≡ []
    nothing None e q = refl
    nothing (Some l) e q = absurd (cc)

-- one with a lease loses it
pub lose-one : (workers first : ℕ) (past now : List Event) → first ≤ workers → HasEnded past now first Lost → now ++ left_to_lose workers (first + 1) now ≡ past ++ left_to_lose workers first past
lose-one workers first past now low ended =
    let e : Event = Finish ended.lease.key ended.lease.index first Lost in
    let rest : List Event = left_to_lose workers (first + 1) past in
    let mine : lost_of (leases past) first ≡ e ∷ [] = ap (λ (o : Option LeaseOut). option_map_or (λ l. Finish l.key l.index first Lost ∷ []) o []) ended.out in
    let out : leases now ≡ without first (leases past) = ap leases ended.grown ∙ leases-push past e in
    let same : left_to_lose workers (first + 1) now ≡ rest = same-lost (leases now) (leases past) (first + 1) (workers + 1 - (first + 1)) (λ v more. ap (lease_of v) out ∙ without-other first v (leases past) (λ q. absurd (omega (arith, q, more)))) in
    ap (λ (es : List Event). now ++ es) same
    ∙ (ap (λ (h : List Event). h ++ rest) ended.grown
    ∙ (append_assoc past (e ∷ []) rest
    ∙ ap (λ (es : List Event). past ++ es) (sym (next-lost workers first (leases past) low ∙ ap (λ (es : List Event). es ++ rest) mine))))

-- the workers up to one have no lease
abbrev pub AreHome : ℕ → List Event → Type 0
AreHome first past = (v : ℕ) → 1 ≤ v → v < first → lease_of v (leases past) ≡ None

none-of : (o : Option LeaseOut) → is_some o ≡ false → o ≡ None
none-of None e = refl
none-of (Some l) e = absurd (cc)

by_order : (v first : ℕ) → v < first + 1 → (v < first) ⊎ (v ≡ first)
by_order v first low = by_test (cases_lt v first)
  where
    by_test : (v < first) ⊎ (first ≤ v) → (v < first) ⊎ (v ≡ first)
    by_test (inl less) = inl less
    by_test (inr more) = inr (omega (arith, more, low))

pub home-none : (first : ℕ) (past : List Event) → AreHome first past → is_some (lease_of first (leases past)) ≡ false → AreHome (first + 1) past
home-none first past home none v some low = by_place (by_order v first low)
  where
    by_place : (v < first) ⊎ (v ≡ first) → lease_of v (leases past) ≡ None
    by_place (inl less) = home v some less
    by_place (inr same) = ap (λ (n : ℕ). lease_of n (leases past)) same ∙ none-of (lease_of first (leases past)) none

pub home-one : (first : ℕ) (past now : List Event) → AreHome first past → HasEnded past now first Lost → AreHome (first + 1) now
home-one first past now home ended v some low = ap (lease_of v) out ∙ by_place (by_order v first low)
  where
    out : leases now ≡ without first (leases past)
    out = ap leases ended.grown ∙ leases-push past (Finish ended.lease.key ended.lease.index first Lost)

    by_place : (v < first) ⊎ (v ≡ first) → lease_of v (without first (leases past)) ≡ None
    by_place (inl less) = without-other first v (leases past) (λ q. absurd (omega (arith, q, less))) ∙ home v some less
    by_place (inr same) = ap (λ (n : ℕ). lease_of n (without first (leases past))) same ∙ without-mine first (leases past)

-- all are recalled
pub record AreRecalled (workers : ℕ) (past now : List Event) : Type 0 where
  pub call : HasCalled workers past Recalls tt now
  pub home : leases now ≡ []

pub recall-done : (workers first : ℕ) (past now : List Event) → 1 ≤ workers → workers ≤ 64 → Legal workers past → workers < first → now ++ left_to_lose workers first now ≡ past ++ recalled workers past → AreHome first now → AreRecalled workers past now
recall-done workers first past now some bound legal more grown home = record { call = called; home = empty (leases now) refl }
  where
    at_end : workers + 1 - first ≡ 0
    at_end = omega (arith, more)

    whole : now ≡ past ++ recalled workers past
    whole = sym (append-nil now) ∙ (ap (λ (n : ℕ). now ++ flat_map (lost_of (leases now)) (counted first n)) (sym at_end) ∙ grown)

    called : HasCalled workers past Recalls tt now
    called = record { events = recalled workers past; grown = whole; call = refl }

    whole_legal : Legal workers now
    whole_legal = subst (Legal workers) (sym whole) (call-is_legal workers past Recalls tt (recalled workers past) some bound legal refl)

    empty : (ls : List LeaseOut) → leases now ≡ ls → ls ≡ []
    empty [] e = refl
    empty (l ∷ ls) e =
        let worker : IsWorker workers l.worker = All-head (λ (h : LeaseOut). IsWorker workers h.worker) l ls (subst (All (λ (h : LeaseOut). IsWorker workers h.worker)) e (legal-leases workers now some bound whole_legal).of_workers) in
        let none : lease_of l.worker (leases now) ≡ None = home l.worker worker.low (omega (arith, worker.high, more)) in
        let found : lease_of l.worker (leases now) ≡ Some l = ap (lease_of l.worker) e ∙ ap (λ (b : Bool). cond b (Some l) (lease_of l.worker ls)) ((Decides-eqb l.worker l.worker).1 refl) in
        let both : None ≡ Some l = sym none ∙ found in
        absurd (cc)
