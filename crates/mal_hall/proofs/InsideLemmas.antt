-- The leases that are kept inside a hall, after one more event.
use Rattle.std.proofs.Common.{◌≡◌, ℕ, zero, suc, ◌-◌, ◌<◌, ◌≤◌, Bool, true, false, ◌==◌, List, [], ◌∷◌, ◌++◌, length, get_or, slice_set, map, Option, Some, None, option_map, refl, sym, ◌∙◌, ap, arith}
use Rattle.std.specs.Prelude.{replicate}
use Rattle.std.proofs.lemmas.Bool.{both_ways}
use Rattle.std.proofs.lemmas.List.{length-replicate}
use Rattle.std.proofs.lemmas.Bool.Decides.{Decides-eqb}
use Rattle.mal_base.specs.declared.verdict.Outcome.{Outcome}
use Rattle.mal_hall.specs.Applied.{Enters, HasEntered, IsInside}
use Rattle.mal_hall.specs.Offered.{handed_of}
use Rattle.mal_hall.specs.HallView.{HallView}
use Rattle.spec_job.specs.Leased.{Leased}
use Rattle.spec_job.specs.KeyedJob.{Key}
use Rattle.spec_hall.specs.Calls.{Handed, handed}
use Rattle.spec_hall.specs.Events.{Event, Start, Finish}
use Rattle.spec_hall.specs.Legal.{Legal}
use Rattle.spec_hall.specs.States.{LeaseOut, lease_of, leases, leases_step}
use Rattle.spec_hall.proofs.HandedLemmas.{lease-stays}
use Rattle.spec_hall.proofs.LeasesLemmas.{without}
use Rattle.spec_hall.proofs.PushLemmas.{leases-push}
use Rattle.spec_hall.proofs.SpotLemmas.{push-mine, push-other, set-count, set-here, set-there, without-mine, without-other}

-- what is needed of a hall before an event
pub record Stands (x : HallView) : Type 0 where
  pub some : 1 ≤ x.workers
  pub bound : x.workers ≤ 64
  pub legal : Legal x.workers x.events
  pub inside : IsInside x

pub stands : (x : HallView) (w : ℕ) → w ≡ x.workers → 1 ≤ w → w ≤ 64 → Legal x.workers x.events → IsInside x → Stands x
stands x w same some bound legal inside = record { some = omega (arith, same, some); bound = omega (arith, same, bound); legal = legal; inside = inside }

-- a worker's lease that is the same after an event
slot-stays : (x : HallView) (e : Event) (events : List Event) (n : ℕ) → Stands x → HasEntered x.workers x.events e events → n < x.workers → lease_of (suc n) (leases (x.events ++ e ∷ [])) ≡ lease_of (suc n) (leases x.events) → get_or x.inside n None ≡ option_map (handed events) (lease_of (suc n) (leases events))
slot-stays x e events n is entered low same =
    is.inside.each n low
    ∙ (sym (lease-stays x.workers x.events e (suc n) is.some is.bound is.legal entered.allowed same)
    ∙ ap (λ (h : List Event). option_map (handed h) (lease_of (suc n) (leases h))) (sym entered.grown))

-- an event that neither starts nor ends a start
pub enters-same : (x y : HallView) (e : Event) → Stands x → y.workers ≡ x.workers → y.inside ≡ x.inside → HasEntered x.workers x.events e y.events → leases_step (leases x.events) e ≡ leases x.events → Enters x e y
enters-same x y e is workers inside entered same = record { workers = workers; entered = entered; inside = home }
  where
    home : IsInside y
    home = record {
      count = ap (λ (os : List (Option Handed)). length os) inside ∙ (is.inside.count ∙ sym workers);
      each = λ n low. ap (λ (os : List (Option Handed)). get_or os n None) inside ∙ slot-stays x e y.events n is entered (omega (arith, low, workers)) (ap (lease_of (suc n)) (leases-push x.events e ∙ same));
    }

-- a start
pub inside-start : (x y : HallView) (k : Key) (index worker : ℕ) (lease : Leased) → Stands x → y.workers ≡ x.workers → y.inside ≡ slice_set x.inside (worker - 1) (Some (handed_of lease)) → HasEntered x.workers x.events (Start k index worker) y.events → handed_of lease ≡ handed y.events (record { worker = worker; key = k; index = index }) → IsInside y
inside-start x y k index worker lease is workers inside entered handed_is = record {
  count = ap (λ (os : List (Option Handed)). length os) inside ∙ (set-count x.inside (worker - 1) (Some (handed_of lease)) ∙ (is.inside.count ∙ sym workers));
  each = λ n low. ap (λ (os : List (Option Handed)). get_or os n None) inside ∙ by_worker n (omega (arith, low, workers)) (worker - 1 == n) refl;
}
  where
    mine : LeaseOut
    mine = record { worker = worker; key = k; index = index }

    some : 1 ≤ worker
    some = entered.allowed.1.some_worker

    out : leases (x.events ++ Start k index worker ∷ []) ≡ leases x.events ++ mine ∷ []
    out = leases-push x.events (Start k index worker)

    found : lease_of worker (leases y.events) ≡ Some mine
    found = ap (λ (h : List Event). lease_of worker (leases h)) entered.grown ∙ (ap (lease_of worker) out ∙ push-mine (leases x.events) mine entered.allowed.1.idle)

    by_worker : (n : ℕ) → n < x.workers → (b : Bool) → (worker - 1 == n) ≡ b → get_or (slice_set x.inside (worker - 1) (Some (handed_of lease))) n None ≡ option_map (handed y.events) (lease_of (suc n) (leases y.events))
    by_worker n low true e =
        let same : worker - 1 ≡ n = (Decides-eqb (worker - 1) n).0 e in
        let next : suc n ≡ worker = omega (arith, same, some) in
        ap (λ (m : ℕ). get_or (slice_set x.inside m (Some (handed_of lease))) n None) same
        ∙ (set-here x.inside n (Some (handed_of lease)) None (omega (arith, low, is.inside.count))
        ∙ (ap Some handed_is
        ∙ (sym (ap (option_map (handed y.events)) found) ∙ ap (λ (m : ℕ). option_map (handed y.events) (lease_of m (leases y.events))) (sym next))))
    by_worker n low false e =
        let other : worker - 1 ≡ n → ⊥ = λ q. both_ways (worker - 1 == n) e ((Decides-eqb (worker - 1) n).1 q) in
        let apart : worker ≡ suc n → ⊥ = λ q. other (omega (arith, q)) in
        set-there x.inside (worker - 1) n (Some (handed_of lease)) None other
        ∙ slot-stays x (Start k index worker) y.events n is entered low (ap (lease_of (suc n)) out ∙ push-other (leases x.events) mine (suc n) apart)

-- a finish
pub inside-finish : (x y : HallView) (k : Key) (index worker : ℕ) (outcome : Outcome) → Stands x → 1 ≤ worker → y.workers ≡ x.workers → y.inside ≡ slice_set x.inside (worker - 1) None → HasEntered x.workers x.events (Finish k index worker outcome) y.events → IsInside y
inside-finish x y k index worker outcome is some workers inside entered = record {
  count = ap (λ (os : List (Option Handed)). length os) inside ∙ (set-count x.inside (worker - 1) None ∙ (is.inside.count ∙ sym workers));
  each = λ n low. ap (λ (os : List (Option Handed)). get_or os n None) inside ∙ by_worker n (omega (arith, low, workers)) (worker - 1 == n) refl;
}
  where
    out : leases (x.events ++ Finish k index worker outcome ∷ []) ≡ without worker (leases x.events)
    out = leases-push x.events (Finish k index worker outcome)

    gone : lease_of worker (leases y.events) ≡ None
    gone = ap (λ (h : List Event). lease_of worker (leases h)) entered.grown ∙ (ap (lease_of worker) out ∙ without-mine worker (leases x.events))

    by_worker : (n : ℕ) → n < x.workers → (b : Bool) → (worker - 1 == n) ≡ b → get_or (slice_set x.inside (worker - 1) None) n None ≡ option_map (handed y.events) (lease_of (suc n) (leases y.events))
    by_worker n low true e =
        let same : worker - 1 ≡ n = (Decides-eqb (worker - 1) n).0 e in
        let next : suc n ≡ worker = omega (arith, same, some) in
        ap (λ (m : ℕ). get_or (slice_set x.inside m None) n None) same
        ∙ (set-here x.inside n None None (omega (arith, low, is.inside.count))
        ∙ (sym (ap (option_map (handed y.events)) gone) ∙ ap (λ (m : ℕ). option_map (handed y.events) (lease_of m (leases y.events))) (sym next)))
    by_worker n low false e =
        let other : worker - 1 ≡ n → ⊥ = λ q. both_ways (worker - 1 == n) e ((Decides-eqb (worker - 1) n).1 q) in
        let apart : suc n ≡ worker → ⊥ = λ q. other (omega (arith, q)) in
        set-there x.inside (worker - 1) n None None other
        ∙ slot-stays x (Finish k index worker outcome) y.events n is entered low (ap (lease_of (suc n)) out ∙ without-other worker (suc n) (leases x.events) apart)

-- no worker of so many has a lease inside
abbrev no_lodgers : ℕ → List (Option Handed)
no_lodgers w = replicate w None

no-lodger : (w n : ℕ) → get_or (no_lodgers w) n None ≡ None
no-lodger zero n = refl
no-lodger (suc w) zero = refl
no-lodger (suc w) (suc n) = no-lodger w n

-- where none is out and none inside, all that are out are inside
pub inside-home : (x : HallView) → x.inside ≡ replicate x.workers None → leases x.events ≡ [] → IsInside x
inside-home x none home = record {
  count = ap (λ (os : List (Option Handed)). length os) none ∙ length-replicate x.workers None;
  each = λ n low. ap (λ (os : List (Option Handed)). get_or os n None) none ∙ (no-lodger x.workers n ∙ sym (ap (λ (ls : List LeaseOut). option_map (handed x.events) (lease_of (suc n) ls)) home));
}

-- nothing handed out is inside where nothing is
pub none-lodged : (w : ℕ) → map (option_map handed_of) (replicate w None) ≡ replicate w None
none-lodged zero = refl
none-lodged (suc w) = ap (λ (os : List (Option Handed)). None ∷ os) (none-lodged w)

-- the leases of a hall that has none inside
none-at : (w n : ℕ) (lodged : List (Option Leased)) → lodged ≡ replicate w None → get_or (map (option_map handed_of) lodged) n None ≡ None
none-at w n lodged e = ap (λ (os : List (Option Leased)). get_or (map (option_map handed_of) os) n None) e ∙ at w n
  where
    at : (m i : ℕ) → get_or (map (option_map handed_of) (replicate m None)) i None ≡ None
    at zero i = refl
    at (suc m) zero = refl
    at (suc m) (suc i) = at m i

none-long : (w : ℕ) (lodged : List (Option Leased)) → lodged ≡ replicate w None → length (map (option_map handed_of) lodged) ≡ w
none-long w lodged e = ap (λ (os : List (Option Leased)). length (map (option_map handed_of) os)) e ∙ long w
  where
    long : (m : ℕ) → length (map (option_map handed_of) (replicate m None)) ≡ m
    long zero = refl
    long (suc m) = ap suc (long m)

pub inside-none : (x : HallView) (w : ℕ) (lodged : List (Option Leased)) → x.workers ≡ w → x.events ≡ [] → x.inside ≡ map (option_map handed_of) lodged → lodged ≡ replicate w None → IsInside x
inside-none x w lodged workers events inside none = record {
  count = ap (λ (os : List (Option Handed)). length os) inside ∙ (none-long w lodged none ∙ sym workers);
  each = λ n low. ap (λ (os : List (Option Handed)). get_or os n None) inside ∙ (none-at w n lodged none ∙ sym (ap (λ (h : List Event). option_map (handed h) (lease_of (suc n) (leases h))) events));
}
