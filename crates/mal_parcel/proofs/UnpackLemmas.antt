-- Own events one after another, and nodes one after another.
use Rattle.std.proofs.Common.{◌≡◌, ℕ, zero, suc, ◌+◌, ◌<◌, ◌≤◌, ◌^◌, List, [], ◌∷◌, ◌++◌, length, take, drop, get_or, Some, sym, ◌∙◌, ap, subst, arith, append_assoc, length-append, Ok}
use Rattle.std.specs.Prelude.{flat_map, slice_get}
use Rattle.std.specs.List.{AllByRecursion}
use Rattle.std.proofs.lemmas.Option.{same_Some, slice_get-get_or}
use Rattle.spec_job.specs.KeyedJob.{Key}
use Rattle.spec_job.specs.Lawful.{IsLawful}
use Rattle.spec_job.specs.SoloMachine.{Own, SoloMachine}
use Rattle.spec_job.specs.Viewed.{JobView, journal_at}
use Rattle.mal_freeze.specs.Reading.{image_in}
use Rattle.mal_freeze.specs.Spelling.{image_bytes}
use Rattle.mal_suspend.specs.Freezing.{IsFrozen}
use Rattle.spec_parcel.specs.Packed.{node_at, node_bytes, placed}
use Rattle.mal_parcel.specs.declared.owned.OwnEvent.{OwnEvent}
use Rattle.mal_parcel.specs.Owned.{own_of, owned}
use Rattle.mal_parcel.specs.Parcelled.{IsReadBack}
use Rattle.mal_parcel.specs.Replaying.{IsBefore, IsNext, IsReplayed, IsToWake}
use Rattle.mal_parcel.specs.Taking.{behind_node, placed_at}
use Rattle.mal_parcel.proofs.PassLemmas.{never-again}
use Rattle.mal_parcel.proofs.TakeLemmas.{behind_node-again, placed-again}

-- what stands at a place parts a list
parted : {X : Type 0} (xs : List X) (n : ℕ) (x : X) → slice_get xs n ≡ Some x → take n xs ++ x ∷ drop (suc n) xs ≡ xs
parted {X} [] n x e = absurd (cc)
parted {X} (y ∷ ys) zero x e = let same : y ≡ x = cc in ap (λ (z : X). z ∷ ys) (sym same)
parted {X} (y ∷ ys) (suc n) x e = ap (λ (zs : List X). y ∷ zs) (parted ys n x e)

fronted : {X : Type 0} (xs : List X) (n : ℕ) (x : X) → slice_get xs n ≡ Some x → take n xs ++ x ∷ [] ≡ take (suc n) xs
fronted {X} [] n x e = absurd (cc)
fronted {X} (y ∷ ys) zero x e = let same : y ≡ x = cc in ap (λ (z : X). z ∷ []) (sym same)
fronted {X} (y ∷ ys) (suc n) x e = ap (λ (zs : List X). y ∷ zs) (fronted ys n x e)

pub owned-get : (events : List OwnEvent) (n : ℕ) (e : OwnEvent) → slice_get events n ≡ Some e → slice_get (owned events) n ≡ Some (own_of e)
owned-get [] n e is = absurd (cc)
owned-get (x ∷ xs) zero e is = let same : x ≡ e = cc in ap (λ (y : OwnEvent). Some (own_of y)) same
owned-get (x ∷ xs) (suc n) e is = owned-get xs n e is

pub taken-some : (os : List Own) (n : ℕ) (o : Own) → 1 ≤ n → slice_get os n ≡ Some o → 1 ≤ length (take n os)
taken-some [] n o some e = absurd (cc)
taken-some (x ∷ xs) zero o some e = absurd (omega (arith, some))
taken-some (x ∷ xs) (suc n) o some e = omega arith

-- what is read of a place stands there
pub got : (events : List OwnEvent) (n : ℕ) (e : OwnEvent) → n < length events → e ≡ get_or events n e → slice_get events n ≡ Some e
got events n e low is = slice_get-get_or events n e low ∙ ap (λ (x : OwnEvent). Some x) (sym is)

module _ (number : ℕ) (key : Key) (events : List OwnEvent) (n : ℕ) (e : OwnEvent) (at : slice_get events n ≡ Some e) (some : 1 ≤ n) (lawful : IsLawful (owned events)) (j : JobView) (slices answers : List ℕ) (h : IsReplayed number key (owned events) (take n (owned events)) j slices answers) where
  -- the own events in three parts
  pub whole-at : take n (owned events) ++ own_of e ∷ drop (suc n) (owned events) ≡ owned events
  whole-at = parted (owned events) n (own_of e) (owned-get events n e at)

  -- a job stands before the event at this place
  abbrev pub before-at : IsBefore (own_of e) j slices answers
  before-at = record { number = number; key = key; past = take n (owned events); later = drop (suc n) (owned events); other = never-again (take n (owned events)) (own_of e) (drop (suc n) (owned events)) (taken-some (owned events) n (own_of e) some (owned-get events n e at)) (subst IsLawful (sym whole-at) lawful); lawful = subst IsLawful (sym whole-at) lawful; replayed = subst (λ (os : List Own). IsReplayed number key os (take n (owned events)) j slices answers) (sym whole-at) h }

  -- and then after it
  pub behind-at : (next : JobView) (ss rest : List ℕ) → ((b : IsBefore (own_of e) j slices answers) → IsReplayed b.number b.key (b.past ++ own_of e ∷ b.later) (b.past ++ own_of e ∷ []) next ss rest) → IsReplayed number key (owned events) (take (n + 1) (owned events)) next ss rest
  behind-at next ss rest done =
      let one : suc n ≡ n + 1 = omega arith in
      subst (λ (os : List Own). IsReplayed number key (owned events) os next ss rest) (fronted (owned events) n (own_of e) (owned-get events n e at) ∙ ap (λ (m : ℕ). take m (owned events)) one)
      (subst (λ (os : List Own). IsReplayed number key os (take n (owned events) ++ own_of e ∷ []) next ss rest) whole-at (done before-at))

-- the first of the nodes that are left
pub first-next : (s : SoloMachine) (count : ℕ) (bytes : List ℕ) → 1 ≤ count → IsToWake s count bytes → IsNext s bytes
first-next s count bytes some h = by_indices h.indices h.counted h.low h.again h.front
  where
    by_indices : (is : List ℕ) → length is ≡ count → AllByRecursion (λ i. i ≤ 63) is → AllByRecursion (IsReadBack s) is → bytes ≡ flat_map (node_bytes s) is ++ h.more → IsNext s bytes
    by_indices [] counted low again front = absurd (omega (arith, counted, some))
    by_indices (i ∷ is) counted low again front = record { index = i; more = flat_map (node_bytes s) is ++ h.more; low = low.0; again = again.0; front = front ∙ append_assoc (node_bytes s i) (flat_map (node_bytes s) is) h.more }

-- what is after it
pub behind-next : (s : SoloMachine) (i : ℕ) (more bytes rest : List ℕ) → length bytes < 2 ^ 63 → bytes ≡ node_bytes s i ++ more → behind_node bytes ≡ Some rest → rest ≡ more
behind-next s i more bytes rest short front behind = same_Some rest more (sym behind ∙ (ap behind_node front ∙ behind_node-again (placed s i) more (omega (arith, short, ap (λ (bs : List ℕ). length bs) front))))

-- and the others
pub others-left : (s : SoloMachine) (count fewer : ℕ) (bytes rest : List ℕ) → fewer + 1 ≡ count → length bytes < 2 ^ 63 → behind_node bytes ≡ Some rest → IsToWake s count bytes → IsToWake s fewer rest × (length rest < 2 ^ 63)
others-left s count fewer bytes rest one short behind h = by_indices h.indices h.counted h.low h.again h.front
  where
    by_indices : (is : List ℕ) → length is ≡ count → AllByRecursion (λ i. i ≤ 63) is → AllByRecursion (IsReadBack s) is → bytes ≡ flat_map (node_bytes s) is ++ h.more → IsToWake s fewer rest × (length rest < 2 ^ 63)
    by_indices [] counted low again front = absurd (omega (arith, counted, one))
    by_indices (i ∷ is) counted low again front =
        let left : List ℕ = flat_map (node_bytes s) is ++ h.more in
        let apart : bytes ≡ node_bytes s i ++ left = front ∙ append_assoc (node_bytes s i) (flat_map (node_bytes s) is) h.more in
        let next : rest ≡ left = behind-next s i left bytes rest short apart behind in
        (record { indices = is; more = h.more; counted = omega (arith, counted, one); low = low.1; again = again.1; front = next }, omega (arith, short, ap (λ (bs : List ℕ). length bs) apart, length-append (node_bytes s i) left, ap (λ (bs : List ℕ). length bs) next))

-- the node at the front is found
pub next-found : (s : SoloMachine) (bytes : List ℕ) → length bytes < 2 ^ 63 → (h : IsNext s bytes) → placed_at bytes ≡ Some (h.index, (image_bytes (node_at s h.index), h.more))
next-found s bytes short h = ap placed_at h.front ∙ placed-again (placed s h.index) h.more (omega (arith, h.low)) (omega (arith, short, ap (λ (bs : List ℕ). length bs) h.front))

-- by its index and its image
pub next-is : (s : SoloMachine) (bytes : List ℕ) → length bytes < 2 ^ 63 → (h : IsNext s bytes) → (index : ℕ) (image rest : List ℕ) → Some (index, (image, rest)) ≡ placed_at bytes → (index ≡ h.index) × (image ≡ image_bytes (node_at s h.index))
next-is s bytes short h index image rest found =
    let same = same_Some {A = ℕ × (List ℕ × List ℕ)} (index, (image, rest)) (h.index, (image_bytes (node_at s h.index), h.more)) (found ∙ next-found s bytes short h) in
    (ap (λ (p : ℕ × (List ℕ × List ℕ)). p.0) same, ap (λ (p : ℕ × (List ℕ × List ℕ)). p.1.0) same)

pub next-frozen : (v : JobView) (bytes : List ℕ) → (h : IsNext v.titled.state bytes) → (index : ℕ) (image : List ℕ) → index ≡ h.index → image ≡ image_bytes (node_at v.titled.state h.index) → IsFrozen image (journal_at v index)
next-frozen v bytes h index image at is = record {
  spelled = is ∙ ap (λ (i : ℕ). image_bytes (node_at v.titled.state i)) (sym at);
  again = subst (λ (i : ℕ). image_in image ≡ Ok (node_at v.titled.state i)) (sym at) (subst (λ (bs : List ℕ). image_in bs ≡ Ok (node_at v.titled.state h.index)) (sym is) h.again);
}
