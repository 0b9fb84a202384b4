-- A node gets no two starts ahead of one that may start too.
use Rattle.std.proofs.Common.{◌≡◌, ℕ, suc, ◌+◌, ◌≤◌, max, Bool, true, false, cond, ◌==◌, ◌||◌, List, [], ◌∷◌, ◌++◌, length, map, get_or, Option, Some, None, inl, inr, ◌⊎◌, refl, sym, ◌∙◌, ap, ap₂, subst, arith, append_assoc, append-nil}
use Rattle.std.specs.Prelude.{slice_get, slice_set}
use Rattle.std.specs.List.{list_any}
use Rattle.std.specs.Option.{option_map}
use Rattle.std.proofs.lemmas.Bool.{eq-eqb, eqb-true, or_parts}
use Rattle.std.proofs.lemmas.Option.{slice_get-map}
use Rattle.spec_job.specs.KeyedJob.{Key, KeyedJob}
use Rattle.spec_job.specs.SoloMachine.{Own, Opened, Revised, Reasked, Closed, Volume, Started, Finished, Exchanged, NodeSlot, SoloMachine, current, first_empty, place_at, solo, solo_step, start_entries, vacant}
use Rattle.spec_job.proofs.FinishLemmas.{finished-leaves, settled-leaves, with_entries}
use Rattle.spec_job.proofs.PlacesLemmas.{marked-place, set-place}
use Rattle.spec_job.proofs.PushLemmas.{solo-push}
use Rattle.spec_hall.specs.Events.{Event, Open, Revise, Reask, Close, Balance, Start, Finish, Exchange, Leave, Arrive}
use Rattle.spec_hall.specs.Legal.{Allowed, LegalFrom, MayStart}
use Rattle.spec_hall.specs.Own.{adds, adds_volume, arrives, is_key, own, own_step, volume_in}
use Rattle.spec_hall.specs.Picked.{PicksFirst}
use Rattle.spec_hall.specs.States.{Candidate, keys_of, states, titled}
use Rattle.spec_hall.proofs.KeyLemmas.{is_key-Decides}
use Rattle.spec_hall.proofs.PushLemmas.{adds-keeps, adds_volume-keeps, own-push}
use Rattle.spec_promises.specs.Waiting.{MayBeStarted, MayStartToo, NobodyStarves, starts_at}

-- ---- how often a place was started after one more event

-- between a count and this many more
record IsBetween (low more count : ℕ) : Type 0 where
  least : low ≤ count
  most : count ≤ low + more

abbrev one_if : Bool → ℕ
one_if b = cond b 1 0

-- how often an own event starts a node
abbrev starting : Own → ℕ → ℕ
starting (Started i) n = one_if (i == n)
starting o n = 0

same-count : (c : ℕ) → IsBetween c 0 c
same-count c = record { least = omega arith; most = omega arith }

-- a place that is set keeps the starts of that which it was
set-count : (s : SoloMachine) (i n : ℕ) (q : NodeSlot) (t : SoloMachine) → q.starts ≡ (place_at s i).starts → (place_at t n).starts ≡ (place_at s n).starts ⊎ ((n ≡ i) × (place_at t n ≡ q)) → IsBetween (place_at s n).starts 0 (place_at t n).starts
set-count s i n q t kept (inl same) = record { least = omega (arith, same); most = omega (arith, same) }
set-count s i n q t kept (inr (here, is)) =
    let first : (place_at t n).starts ≡ q.starts = ap (λ (p : NodeSlot). p.starts) is in
    let old : (place_at s n).starts ≡ (place_at s i).starts = ap (λ (x : ℕ). (place_at s x).starts) here in
    record { least = omega (arith, first, kept, old); most = omega (arith, first, kept, old) }

placed-count : (s : SoloMachine) (i n : ℕ) (q : NodeSlot) → q.starts ≡ (place_at s i).starts → IsBetween (place_at s n).starts 0 (place_at (record s { places = slice_set s.places i q }) n).starts
placed-count s i n q kept = by_place (set-place s.places i n q)
  where
    by_place : ((n ≡ i) × (get_or (slice_set s.places i q) n vacant ≡ q)) ⊎ (get_or (slice_set s.places i q) n vacant ≡ get_or s.places n vacant) → IsBetween (place_at s n).starts 0 (place_at (record s { places = slice_set s.places i q }) n).starts
    by_place (inl k) = set-count s i n q (record s { places = slice_set s.places i q }) kept (inr k)
    by_place (inr same) = set-count s i n q (record s { places = slice_set s.places i q }) kept (inl (ap (λ (p : NodeSlot). p.starts) same))

abbrev IsKept : SoloMachine → ℕ → SoloMachine → Type 0
IsKept s n t = IsBetween (place_at s n).starts 0 (place_at t n).starts

step-count : (s : SoloMachine) (o : Own) (n : ℕ) → IsBetween (place_at s n).starts (starting o n) (place_at (solo_step s o) n).starts
step-count s (Opened ask) n = same-count (place_at s n).starts
step-count s (Revised r) n = settled-leaves (IsKept s n) (λ m answers k. k) (λ m spent starved k. k) (first_empty s.log) (record s { revisions = s.revisions ++ r ∷ [] }) (same-count (place_at s n).starts)
step-count s (Reasked w) n = same-count (place_at s n).starts
step-count s Closed n = same-count (place_at s n).starts
step-count s (Volume v) n = same-count (place_at s n).starts
step-count s (Started i) n = by_place (set-place s.places i n q)
  where
    q : NodeSlot
    q = record (place_at s i) { out = Some (record { revision = current s; adds = start_entries s (place_at s i) }); starts = (place_at s i).starts + 1 }

    by_place : ((n ≡ i) × (get_or (slice_set s.places i q) n vacant ≡ q)) ⊎ (get_or (slice_set s.places i q) n vacant ≡ get_or s.places n vacant) → IsBetween (place_at s n).starts (one_if (i == n)) (place_at (solo_step s (Started i)) n).starts
    by_place (inl k) =
        let one : one_if (i == n) ≡ 1 = ap one_if (eq-eqb i n (sym k.0)) in
        let first : (place_at (solo_step s (Started i)) n).starts ≡ (place_at s i).starts + 1 = ap (λ (p : NodeSlot). p.starts) k.1 in
        let old : (place_at s n).starts ≡ (place_at s i).starts = ap (λ (x : ℕ). (place_at s x).starts) k.0 in
        record { least = omega (arith, first, old); most = omega (arith, first, old, one) }
    by_place (inr k) = let same : (place_at (solo_step s (Started i)) n).starts ≡ (place_at s n).starts = ap (λ (p : NodeSlot). p.starts) k in record { least = omega (arith, same); most = omega (arith, same) }
step-count s (Finished i o) n =
    finished-leaves (IsKept s n) (λ m answers k. k) (λ m spent starved k. k) s i (place_at s i) (place_at s i).out o (same-count (place_at s n).starts)
    (λ l e. placed-count s i n (with_entries (place_at s i) l) refl)
    (placed-count s i n (record (place_at s i) { out = None }) refl)
step-count s Exchanged n =
    let marked = marked-place s.volume (length s.log) 0 s.places n in
    let same : (place_at (solo_step s Exchanged) n).starts ≡ (place_at s n).starts = ap (λ (p : NodeSlot). p.starts) marked.1 in
    record { least = omega (arith, same); most = omega (arith, same) }

-- ---- and after one more event of a hall

-- how often an event starts a node of a job
abbrev starting_of : Key → ℕ → Event → ℕ
starting_of k n (Start j i worker) = cond (is_key k j) (one_if (i == n)) 0
starting_of k n e = 0

-- the starts of a node after these own events
abbrev After : ℕ → ℕ → ℕ → List Own → Type 0
After n low more os = IsBetween low more (place_at (solo os) n).starts

more-count : (low less more count : ℕ) → less ≤ more → IsBetween low less count → IsBetween low more count
more-count low less more count few h = record { least = h.least; most = omega (arith, h.most, few) }

pushed-count : (n : ℕ) (os : List Own) (o : Own) → After n (place_at (solo os) n).starts (starting o n) (os ++ o ∷ [])
pushed-count n os o = subst (λ (s : SoloMachine). IsBetween (place_at (solo os) n).starts (starting o n) (place_at s n).starts) (sym (solo-push os o)) (step-count (solo os) o n)

added-count : (n : ℕ) (mine : Bool) (os : List Own) (o : Own) → After n (place_at (solo os) n).starts (cond mine (starting o n) 0) (adds mine os o)
added-count n true os o = pushed-count n os o
added-count n false os o = same-count (place_at (solo os) n).starts

none-count : (n : ℕ) (mine : Bool) (os : List Own) (o : Own) → starting o n ≡ 0 → After n (place_at (solo os) n).starts 0 (adds mine os o)
none-count n mine os o none = adds-keeps (After n (place_at (solo os) n).starts 0) mine os o (same-count (place_at (solo os) n).starts) (λ joins. more-count _ (starting o n) 0 _ (omega (arith, none)) (pushed-count n os o))

volume-count : (n v : ℕ) (os : List Own) → After n (place_at (solo os) n).starts 0 (adds_volume v os)
volume-count n v os = adds_volume-keeps (After n (place_at (solo os) n).starts 0) v os (same-count (place_at (solo os) n).starts) (pushed-count n os (Volume v))

own-count : (k : Key) (n : ℕ) (os : List Own) (e : Event) → arrives k e ≡ false → After n (place_at (solo os) n).starts (starting_of k n e) (own_step k os e)
own-count k n os (Open j ask) stays = none-count n (is_key k j) os (Opened ask) refl
own-count k n os (Revise j number r) stays = none-count n (is_key k j) os (Revised r) refl
own-count k n os (Reask j w) stays = none-count n (is_key k j) os (Reasked w) refl
own-count k n os (Close j) stays = none-count n (is_key k j) os Closed refl
own-count k n os (Balance shares) stays = volume-count n (volume_in k shares) os
own-count k n os (Start j i worker) stays = added-count n (is_key k j) os (Started i)
own-count k n os (Finish j i worker outcome) stays = none-count n (is_key k j) os (Finished i outcome) refl
own-count k n os (Exchange j) stays = none-count n (is_key k j) os Exchanged refl
own-count k n os (Leave j) stays = by_test (is_key k j)
  where
    by_test : (b : Bool) → After n (place_at (solo os) n).starts 0 (cond b (adds_volume 0 os) os)
    by_test true = volume-count n 0 os
    by_test false = same-count (place_at (solo os) n).starts
own-count k n os (Arrive j brought) stays = subst (λ (b : Bool). After n (place_at (solo os) n).starts 0 (cond b brought os)) (sym stays) (same-count (place_at (solo os) n).starts)

event-count : (k : Key) (n : ℕ) (h : List Event) (e : Event) → arrives k e ≡ false → IsBetween (starts_at k n h) (starting_of k n e) (starts_at k n (h ++ e ∷ []))
event-count k n h e stays = subst (λ (os : List Own). After n (starts_at k n h) (starting_of k n e) os) (sym (own-push k h e)) (own-count k n (own k h) e stays)

-- ---- the node that is picked was not started more often than any that may start

-- the place of a job that is there
place-of : (h : List Event) (k : Key) (ks : List Key) → list_any (is_key k) ks ≡ true → (m : ℕ) × (slice_get (map (titled h) ks) m ≡ Some (titled h k))
place-of h k [] there = absurd (cc)
place-of h k (x ∷ xs) there = by_key (is_key k x) refl there (place-of h k xs)
  where
    by_key : (b : Bool) → is_key k x ≡ b → (b || list_any (is_key k) xs) ≡ true → (list_any (is_key k) xs ≡ true → (m : ℕ) × (slice_get (map (titled h) xs) m ≡ Some (titled h k))) → (m : ℕ) × (slice_get (map (titled h) (x ∷ xs)) m ≡ Some (titled h k))
    by_key true q f rest = (0, ap (λ (y : Key). Some (titled h y)) (sym ((is_key-Decides k x).0 q)))
    by_key false q f rest = let later = rest f in (suc later.0, later.1)

picked-least : PicksFirst → (w : ℕ) (h : List Event) (j k : Key) (n m worker : ℕ) (choice : Candidate) → MayStart w h j n worker choice → MayBeStarted k m h → starts_at j n h ≤ starts_at k m h
picked-least law w h j k n m worker choice may other =
    let first = law (states h) choice may.first in
    let at : slice_get (states h) choice.job ≡ Some (titled h j) = slice_get-map (titled h) (keys_of h) choice.job ∙ ap (option_map (titled h)) may.key in
    let same : first.0 ≡ titled h j = some-is first.0 (titled h j) (sym first.1.one.job ∙ at) in
    let mine : (place_at (titled h j).state choice.index).starts ≡ choice.starts = subst (λ (t : KeyedJob). (place_at t.state choice.index).starts ≡ choice.starts) same first.1.one.starts in
    let count : starts_at j n h ≡ choice.starts = subst (λ (i : ℕ). starts_at j i h ≡ choice.starts) may.place mine in
    let there = place-of h k (keys_of h) other.there in
    let less : choice.starts ≤ starts_at k m h = (first.1.first (record { job = there.0; index = m; starts = starts_at k m h }) (titled h k) (record { job = there.1; may = other.lets; starts = refl })).starts in
    omega (arith, count, less)
  where
    some-is : (x y : KeyedJob) → ◌≡◌ {A = Option KeyedJob} (Some x) (Some y) → x ≡ y
    some-is x y e = cc

-- ---- so neither gets ahead

-- what is after a past in a legal history
legal-later : (w : ℕ) (front past later : List Event) → LegalFrom w front (past ++ later) → LegalFrom w (front ++ past) later
legal-later w front [] later h = subst (λ (x : List Event). LegalFrom w x later) (sym (append-nil front)) h
legal-later w front (e ∷ es) later h = subst (λ (x : List Event). LegalFrom w x later) (append_assoc front (e ∷ []) es) (legal-later w (front ++ e ∷ []) es later h.1)

module _ (law : PicksFirst) (w n m base : ℕ) (j k : Key) where
  abbrev IsNear : List Event → Type 0
  IsNear h = starts_at j n h ≤ max base (starts_at k m h + 1)

  -- where an event does not start the first node
  other-near : (h : List Event) (e : Event) → starting_of j n e ≡ 0 → arrives j e ≡ false → arrives k e ≡ false → IsNear h → IsNear (h ++ e ∷ [])
  other-near h e none stays remains near =
      let mine = event-count j n h e stays in
      let other = event-count k m h e remains in
      omega (arith, mine.most, none, other.least, near)

  -- where it may
  start-near : (h : List Event) (x : Key) (i worker : ℕ) → starts_at j n h ≤ starts_at k m h → IsNear (h ++ Start x i worker ∷ [])
  start-near h x i worker less =
      let mine = event-count j n h (Start x i worker) refl in
      let other = event-count k m h (Start x i worker) refl in
      let one : starting_of j n (Start x i worker) ≤ 1 = by_tests (is_key j x) (i == n) in
      omega (arith, mine.most, one, other.least, less)
    where
      by_tests : (a b : Bool) → cond a (one_if b) 0 ≤ 1
      by_tests true true = omega arith
      by_tests true false = omega arith
      by_tests false b = omega arith

  event-near : (h : List Event) (e : Event) → Allowed w h e → arrives j e ≡ false → arrives k e ≡ false → ((worker : ℕ) → e ≡ Start j n worker → MayBeStarted k m h) → IsNear h → IsNear (h ++ e ∷ [])
  event-near h (Start x i worker) may stays remains other near = by_tests (is_key j x) refl (i == n) refl
    where
      by_tests : (a : Bool) → is_key j x ≡ a → (b : Bool) → (i == n) ≡ b → IsNear (h ++ Start x i worker ∷ [])
      by_tests true p true q =
          let key : j ≡ x = (is_key-Decides j x).0 p in
          let place : i ≡ n = eqb-true i n q in
          let same : Start x i worker ≡ Start j n worker = ap₂ (λ (y : Key) (z : ℕ). Start y z worker) (sym key) place in
          let mine : MayStart w h j n worker may.0 = subst (λ (y : Key). MayStart w h y n worker may.0) (sym key) (subst (λ (z : ℕ). MayStart w h x z worker may.0) place may.1) in
          start-near h x i worker (picked-least law w h j k n m worker may.0 mine (other worker same))
      by_tests true p false q = other-near h (Start x i worker) (ap₂ (λ (a b : Bool). cond a (one_if b) 0) p q) refl refl near
      by_tests false p b q = other-near h (Start x i worker) (ap (λ (a : Bool). cond a (one_if (i == n)) 0) p) refl refl near
  event-near h (Open x ask) may stays remains other near = other-near h (Open x ask) refl stays remains near
  event-near h (Revise x number r) may stays remains other near = other-near h (Revise x number r) refl stays remains near
  event-near h (Reask x weight) may stays remains other near = other-near h (Reask x weight) refl stays remains near
  event-near h (Close x) may stays remains other near = other-near h (Close x) refl stays remains near
  event-near h (Balance shares) may stays remains other near = other-near h (Balance shares) refl stays remains near
  event-near h (Finish x i worker outcome) may stays remains other near = other-near h (Finish x i worker outcome) refl stays remains near
  event-near h (Exchange x) may stays remains other near = other-near h (Exchange x) refl stays remains near
  event-near h (Leave x) may stays remains other near = other-near h (Leave x) refl stays remains near
  event-near h (Arrive x brought) may stays remains other near = other-near h (Arrive x brought) refl stays remains near

  all-near : (h later : List Event) → LegalFrom w h later → list_any (arrives j) later ≡ false → list_any (arrives k) later ≡ false → MayStartToo h later j n k m → IsNear h → IsNear (h ++ later)
  all-near h [] legal stays remains other near = subst IsNear (sym (append-nil h)) near
  all-near h (e ∷ es) legal stays remains other near =
      let mine = or_parts (arrives j e) (list_any (arrives j) es) stays in
      let others = or_parts (arrives k e) (list_any (arrives k) es) remains in
      let here : IsNear (h ++ e ∷ []) = event-near h e legal.0 mine.0 others.0 (λ worker q. subst (MayBeStarted k m) (append-nil h) (other [] es worker (ap (λ (x : Event). x ∷ es) q))) near in
      subst IsNear (append_assoc h (e ∷ []) es) (all-near (h ++ e ∷ []) es legal.1 mine.1 others.1 (λ before fs worker q. subst (MayBeStarted k m) (sym (append_assoc h (e ∷ []) before)) (other (e ∷ before) fs worker (ap (λ (xs : List Event). e ∷ xs) q))) here)

pub nobody_starves : PicksFirst → NobodyStarves
nobody_starves law w n m past later j k legal stays remains other = all-near law w n m (starts_at j n past) j k past later (legal-later w [] past later legal) stays remains other (first (starts_at j n past) (starts_at k m past + 1))
  where
    first : (a b : ℕ) → a ≤ max a b
    first a b = omega arith
