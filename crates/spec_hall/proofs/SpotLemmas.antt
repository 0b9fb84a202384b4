-- The spots of the workers after an event.
use Rattle.std.proofs.Common.{◌≡◌, ℕ, zero, suc, ◌+◌, ◌<◌, ◌≤◌, Bool, true, false, cond, not, ◌||◌, ◌==◌, nat_lt, List, [], ◌∷◌, ◌++◌, length, filter, fold, get_or, replicate, slice_get, slice_set, Option, Some, None, refl, sym, ◌∙◌, ap, subst, arith}
use Rattle.std.specs.Option.{option_or}
use Rattle.std.specs.List.{list_any}
use Rattle.std.proofs.lemmas.Bool.{both_ways, or_parts}
use Rattle.std.proofs.lemmas.Bool.Decides.{Decides-eqb}
use Rattle.std.proofs.lemmas.List.{length-replicate}
use Rattle.std.proofs.lemmas.List.Folds.{find-append}
use Rattle.std.proofs.lemmas.List.Sums.{fold_push}
use Rattle.mal_base.specs.declared.verdict.Outcome.{Outcome}
use Rattle.mal_base.specs.Asks.{Terms}
use Rattle.spec_job.specs.SoloMachine.{Own}
use Rattle.spec_job.specs.KeyedJob.{Key}
use Rattle.spec_hall.specs.Events.{Event, Open, Revise, Reask, Close, Balance, Start, Finish, Exchange, Leave, Arrive}
use Rattle.spec_hall.specs.Leases.{start_number, numbered, numbered_step, starts_in, starts_step}
use Rattle.spec_hall.specs.Spots.{Spot, Tag, IsAt, IsSpot, IsTagged, AreSpots}
use Rattle.spec_hall.specs.Own.{is_key}
use Rattle.spec_hall.specs.States.{LeaseOut, comings_in, job_number, leases, lease_of}
use Rattle.spec_hall.proofs.PushLemmas.{leases-push}
use Rattle.spec_hall.proofs.LeasesLemmas.{others}
use Rattle.spec_hall.proofs.ComingLemmas.{IsComing, arrive-comes, number-comes, number-other, number-stays, open-comes}

-- the starts after one more event
pub numbered-push : (worker : ℕ) (h : List Event) (e : Event) → numbered worker (h ++ e ∷ []) ≡ numbered_step worker (numbered worker h) e
numbered-push worker h e = fold_push (numbered_step worker) (record { all = 0; last = 0 }) h e

pub starts-push : (h : List Event) (e : Event) → starts_in (h ++ e ∷ []) ≡ starts_step (starts_in h) e
starts-push h e = fold_push starts_step 0 h e

-- whoever counts, there are as many starts
pub numbered-all : (worker n : ℕ) (last : ℕ) (es : List Event) → (fold (numbered_step worker) (record { all = n; last = last }) es).all ≡ fold starts_step n es
numbered-all worker n last [] = refl
numbered-all worker n last (Open k ask ∷ es) = numbered-all worker n last es
numbered-all worker n last (Revise k number r ∷ es) = numbered-all worker n last es
numbered-all worker n last (Reask k weight ∷ es) = numbered-all worker n last es
numbered-all worker n last (Close k ∷ es) = numbered-all worker n last es
numbered-all worker n last (Balance shares ∷ es) = numbered-all worker n last es
numbered-all worker n last (Start k index w ∷ es) = numbered-all worker (n + 1) (cond (w == worker) (n + 1) last) es
numbered-all worker n last (Finish k index w outcome ∷ es) = numbered-all worker n last es
numbered-all worker n last (Exchange k ∷ es) = numbered-all worker n last es
numbered-all worker n last (Leave k ∷ es) = numbered-all worker n last es
numbered-all worker n last (Arrive k brought ∷ es) = numbered-all worker n last es

-- no other of these jobs has that key
abbrev pub AreOthers : Key → List Tag → Type 0
AreOthers k tags = (n : ℕ) (tag : Tag) → slice_get tags n ≡ Some tag → is_key tag.key k ≡ false

-- these jobs have the numbers that they had
abbrev pub KeepNumbers : List Event → List Event → List Tag → Type 0
KeepNumbers past now tags = (n : ℕ) (tag : Tag) → slice_get tags n ≡ Some tag → job_number tag.key now ≡ job_number tag.key past

-- events that leave leases, starts and the jobs' numbers leave the spots
pub spots-stay : (workers : ℕ) (past now : List Event) (tags : List Tag) (spots : List (Option Spot)) → leases now ≡ leases past → ((worker : ℕ) → start_number worker now ≡ start_number worker past) → KeepNumbers past now tags → AreSpots workers past tags spots → AreSpots workers now tags spots
spots-stay workers past now tags spots same numbers keep are = record {
  count = are.count;
  each = λ n low. stays n (get_or spots n None) (are.each n low);
  tagged = λ n tag e. let tagged : IsTagged past tag = are.tagged n tag e in record { number = tagged.number ∙ sym (keep n tag e); places = tagged.places };
}
  where
    stays : (n : ℕ) (o : Option Spot) → IsSpot past tags (suc n) o → IsSpot now tags (suc n) o
    stays n None h = ap (lease_of (suc n)) same ∙ h
    stays n (Some spot) h = record { place = h.place; tag = h.tag; at = h.at; job = h.job; out = ap (lease_of (suc n)) same ∙ h.out; number = h.number ∙ sym (numbers (suc n)); started = h.started; low = h.low }

get-front : {X : Type 0} (xs ys : List X) (n : ℕ) (x : X) → slice_get xs n ≡ Some x → slice_get (xs ++ ys) n ≡ Some x
get-front [] ys n x e = absurd (cc)
get-front (y ∷ xs) ys zero x e = e
get-front (y ∷ xs) ys (suc n) x e = get-front xs ys n x e

pub get-last : {X : Type 0} (xs : List X) (x : X) (P : ℕ → X → Type 0) → P (length xs) x → ((n : ℕ) (y : X) → slice_get xs n ≡ Some y → P n y) → (n : ℕ) (y : X) → slice_get (xs ++ x ∷ []) n ≡ Some y → P n y
get-last [] x P last h zero y e = let same : x ≡ y = cc in subst (P 0) same last
get-last [] x P last h (suc n) y e = absurd (cc)
get-last (z ∷ xs) x P last h zero y e = h zero y e
get-last (z ∷ xs) x P last h (suc n) y e = get-last xs x (λ m. P (suc m)) last (λ m w f. h (suc m) w f) n y e

-- a job more
spots-more : (workers : ℕ) (past : List Event) (tags : List Tag) (spots : List (Option Spot)) (tag : Tag) → IsTagged past tag → AreSpots workers past tags spots → AreSpots workers past (tags ++ tag ∷ []) spots
spots-more workers past tags spots tag tagged are = record {
  count = are.count;
  each = λ n low. stays n (get_or spots n None) (are.each n low);
  tagged = get-last tags tag (λ n t. IsTagged past t) tagged are.tagged;
}
  where
    stays : (n : ℕ) (o : Option Spot) → IsSpot past tags (suc n) o → IsSpot past (tags ++ tag ∷ []) (suc n) o
    stays n None h = h
    stays n (Some spot) h = record { place = h.place; tag = h.tag; at = get-front tags (tag ∷ []) h.place h.tag h.at; job = h.job; out = h.out; number = h.number; started = h.started; low = h.low }

-- a job that is opened or arrives
spots-come : (workers : ℕ) (past : List Event) (e : Event) (tags : List Tag) (spots : List (Option Spot)) (tag : Tag) → IsComing tag.key e → leases (past ++ e ∷ []) ≡ leases past → ((worker : ℕ) → start_number worker (past ++ e ∷ []) ≡ start_number worker past) → tag.number ≡ comings_in past → length tag.starts ≡ 64 → AreOthers tag.key tags → AreSpots workers past tags spots → AreSpots workers (past ++ e ∷ []) (tags ++ tag ∷ []) spots
spots-come workers past e tags spots tag comes same numbers number places others are =
    let keep : KeepNumbers past (past ++ e ∷ []) tags = λ n t at. number-other t.key tag.key past e comes (others n t at) in
    let tagged : IsTagged (past ++ e ∷ []) tag = record { number = number ∙ sym (number-comes tag.key past e comes); places = places } in
    spots-more workers (past ++ e ∷ []) tags spots tag tagged (spots-stay workers past (past ++ e ∷ []) tags spots same numbers keep are)

pub spots-open : (workers : ℕ) (past : List Event) (tags : List Tag) (spots : List (Option Spot)) (tag : Tag) (ask : Terms) → tag.number ≡ comings_in past → length tag.starts ≡ 64 → AreOthers tag.key tags → AreSpots workers past tags spots → AreSpots workers (past ++ Open tag.key ask ∷ []) (tags ++ tag ∷ []) spots
spots-open workers past tags spots tag ask number places others are =
    spots-come workers past (Open tag.key ask) tags spots tag (open-comes tag.key ask) (leases-push past (Open tag.key ask)) (λ v. ap (λ n. n.last) (numbered-push v past (Open tag.key ask))) number places others are

pub spots-arrive : (workers : ℕ) (past : List Event) (tags : List Tag) (spots : List (Option Spot)) (tag : Tag) (brought : List Own) → tag.number ≡ comings_in past → length tag.starts ≡ 64 → AreOthers tag.key tags → AreSpots workers past tags spots → AreSpots workers (past ++ Arrive tag.key brought ∷ []) (tags ++ tag ∷ []) spots
spots-arrive workers past tags spots tag brought number places others are =
    spots-come workers past (Arrive tag.key brought) tags spots tag (arrive-comes tag.key brought) (leases-push past (Arrive tag.key brought)) (λ v. ap (λ n. n.last) (numbered-push v past (Arrive tag.key brought))) number places others are

-- the place of an element that is kept, and of one that was
record StandsAt (tags : List Tag) (tag : Tag) : Type 0 where
  place : ℕ
  at : slice_get tags place ≡ Some tag

filter-at : (keep : Tag → Bool) (ts : List Tag) (n : ℕ) (t : Tag) → slice_get ts n ≡ Some t → keep t ≡ true → StandsAt (filter keep ts) t
filter-at keep [] n t at kept = absurd (cc)
filter-at keep (x ∷ xs) zero t at kept =
    let same : t ≡ x = cc in
    ap-filter (keep x) (ap keep (sym same) ∙ kept) same
  where
    ap-filter : (b : Bool) → b ≡ true → t ≡ x → StandsAt (cond b (x ∷ filter keep xs) (filter keep xs)) t
    ap-filter true e same = record { place = 0; at = ap (λ (y : Tag). Some y) (sym same) }
    ap-filter false e same = absurd (cc)
filter-at keep (x ∷ xs) (suc n) t at kept = behind (keep x) (filter-at keep xs n t at kept)
  where
    behind : (b : Bool) → StandsAt (filter keep xs) t → StandsAt (cond b (x ∷ filter keep xs) (filter keep xs)) t
    behind true rest = record { place = suc rest.place; at = rest.at }
    behind false rest = rest

filter-from : (keep : Tag → Bool) (ts : List Tag) (n : ℕ) (t : Tag) → slice_get (filter keep ts) n ≡ Some t → StandsAt ts t
filter-from keep [] n t at = absurd (cc)
filter-from keep (x ∷ xs) n t at = by_test (keep x) n at (λ m e. filter-from keep xs m t e)
  where
    next : StandsAt xs t → StandsAt (x ∷ xs) t
    next rest = record { place = suc rest.place; at = rest.at }

    by_test : (b : Bool) (m : ℕ) → slice_get (cond b (x ∷ filter keep xs) (filter keep xs)) m ≡ Some t → ((i : ℕ) → slice_get (filter keep xs) i ≡ Some t → StandsAt xs t) → StandsAt (x ∷ xs) t
    by_test true zero e rest = record { place = 0; at = e }
    by_test true (suc m) e rest = next (rest m e)
    by_test false m e rest = next (rest m e)

-- the lease of a worker is of another job than one that has none out
lease-other : (k : Key) (worker : ℕ) (ls : List LeaseOut) (l : LeaseOut) → list_any (λ (x : LeaseOut). is_key k x.key) ls ≡ false → lease_of worker ls ≡ Some l → is_key k l.key ≡ false
lease-other k worker [] l home e = absurd (cc)
lease-other k worker (x ∷ xs) l home e = by_test (x.worker == worker) e (lease-other k worker xs l parts.1)
  where
    parts : (is_key k x.key ≡ false) × (list_any (λ (y : LeaseOut). is_key k y.key) xs ≡ false)
    parts = or_parts (is_key k x.key) (list_any (λ (y : LeaseOut). is_key k y.key) xs) home

    by_test : (b : Bool) → cond b (Some x) (lease_of worker xs) ≡ Some l → (lease_of worker xs ≡ Some l → is_key k l.key ≡ false) → is_key k l.key ≡ false
    by_test true q rest = let same : x ≡ l = cc in ap (λ (y : LeaseOut). is_key k y.key) (sym same) ∙ parts.0
    by_test false q rest = rest q

-- the jobs without that of a key
abbrev pub tags_without : Key → List Tag → List Tag
tags_without k tags = filter (λ t. not (is_key k t.key)) tags

-- a job that leaves
pub spots-leave : (workers : ℕ) (past : List Event) (tags : List Tag) (spots : List (Option Spot)) (k : Key) → list_any (λ l. is_key k l.key) (leases past) ≡ false → AreSpots workers past tags spots → AreSpots workers (past ++ Leave k ∷ []) (tags_without k tags) spots
spots-leave workers past tags spots k home are = spots-stay workers past (past ++ Leave k ∷ []) (tags_without k tags) spots (leases-push past (Leave k)) (λ v. ap (λ n. n.last) (numbered-push v past (Leave k))) (λ n tag e. number-stays tag.key past (Leave k) (record { steps = λ j m. refl; counts = λ m. refl })) fewer
  where
    stays : (n : ℕ) (o : Option Spot) → IsSpot past tags (suc n) o → IsSpot past (tags_without k tags) (suc n) o
    stays n None h = h
    stays n (Some spot) h =
        let other : is_key k h.tag.key ≡ false = lease-other k (suc n) (leases past) (record { worker = suc n; key = h.tag.key; index = spot.index }) home h.out in
        let stands : StandsAt (tags_without k tags) h.tag = filter-at (λ (t : Tag). not (is_key k t.key)) tags h.place h.tag h.at (ap not other) in
        record { place = stands.place; tag = h.tag; at = stands.at; job = h.job; out = h.out; number = h.number; started = h.started; low = h.low }

    fewer : AreSpots workers past (tags_without k tags) spots
    fewer = record {
      count = are.count;
      each = λ n low. stays n (get_or spots n None) (are.each n low);
      tagged = λ n tag e. let stands : StandsAt tags tag = filter-from (λ (t : Tag). not (is_key k t.key)) tags n tag e in are.tagged stands.place tag stands.at;
    }

-- elements of a list that is set
pub set-here : {X : Type 0} (xs : List X) (n : ℕ) (x d : X) → n < length xs → get_or (slice_set xs n x) n d ≡ x
set-here [] n x d low = absurd (omega (arith, low))
set-here (y ∷ ys) zero x d low = refl
set-here (y ∷ ys) (suc n) x d low = set-here ys n x d (omega (arith, low))

pub set-there : {X : Type 0} (xs : List X) (n m : ℕ) (x d : X) → (n ≡ m → ⊥) → get_or (slice_set xs n x) m d ≡ get_or xs m d
set-there [] n m x d other = refl
set-there (y ∷ ys) zero zero x d other = absurd (other refl)
set-there (y ∷ ys) zero (suc m) x d other = refl
set-there (y ∷ ys) (suc n) zero x d other = refl
set-there (y ∷ ys) (suc n) (suc m) x d other = set-there ys n m x d (λ e. other (ap suc e))

pub set-count : {X : Type 0} (xs : List X) (n : ℕ) (x : X) → length (slice_set xs n x) ≡ length xs
set-count [] n x = refl
set-count (y ∷ ys) zero x = refl
set-count (y ∷ ys) (suc n) x = ap suc (set-count ys n x)

get-here : {X : Type 0} (xs : List X) (n : ℕ) (x y : X) → slice_get xs n ≡ Some y → slice_get (slice_set xs n x) n ≡ Some x
get-here [] n x y e = absurd (cc)
get-here (z ∷ zs) zero x y e = refl
get-here (z ∷ zs) (suc n) x y e = get-here zs n x y e

get-there : {X : Type 0} (xs : List X) (n m : ℕ) (x : X) → (n ≡ m → ⊥) → slice_get (slice_set xs n x) m ≡ slice_get xs m
get-there [] n m x other = refl
get-there (y ∷ ys) zero zero x other = absurd (other refl)
get-there (y ∷ ys) zero (suc m) x other = refl
get-there (y ∷ ys) (suc n) zero x other = refl
get-there (y ∷ ys) (suc n) (suc m) x other = get-there ys n m x (λ e. other (ap suc e))

-- the lease of a worker who starts, and of others
pub push-mine : (ls : List LeaseOut) (l : LeaseOut) → lease_of l.worker ls ≡ None → lease_of l.worker (ls ++ l ∷ []) ≡ Some l
push-mine ls l none = find-append (λ (x : LeaseOut). x.worker == l.worker) ls (l ∷ []) ∙ (ap (λ (o : Option LeaseOut). option_or o (lease_of l.worker (l ∷ []))) none ∙ ap (λ (b : Bool). cond b (Some l) None) ((Decides-eqb l.worker l.worker).1 refl))

or-none : {X : Type 0} (o : Option X) → option_or o None ≡ o
or-none None = refl
or-none (Some x) = refl

differs : (a b : ℕ) → (a ≡ b → ⊥) → (a == b) ≡ false
differs a b other = by_test (a == b) refl
  where
    by_test : (c : Bool) → (a == b) ≡ c → c ≡ false
    by_test true e = absurd (other ((Decides-eqb a b).0 e))
    by_test false e = refl

pub push-other : (ls : List LeaseOut) (l : LeaseOut) (worker : ℕ) → (l.worker ≡ worker → ⊥) → lease_of worker (ls ++ l ∷ []) ≡ lease_of worker ls
push-other ls l worker other = find-append (λ (x : LeaseOut). x.worker == worker) ls (l ∷ []) ∙ (ap (λ (b : Bool). option_or (lease_of worker ls) (cond b (Some l) None)) (differs l.worker worker other) ∙ or-none (lease_of worker ls))

-- the lease of a worker whose lease came back, and of others
abbrev without : ℕ → List LeaseOut → List LeaseOut
without worker ls = filter (λ (l : LeaseOut). nat_lt l.worker worker || nat_lt worker l.worker) ls

pub without-mine : (worker : ℕ) (ls : List LeaseOut) → lease_of worker (without worker ls) ≡ None
without-mine worker [] = refl
without-mine worker (x ∷ xs) = by_test (x.worker == worker) refl (nat_lt x.worker worker || nat_lt worker x.worker) (others x.worker worker) (without-mine worker xs)
  where
    by_test : (b : Bool) → (x.worker == worker) ≡ b → (c : Bool) → c ≡ not b → lease_of worker (without worker xs) ≡ None → lease_of worker (cond c (x ∷ without worker xs) (without worker xs)) ≡ None
    by_test true p true q rest = absurd (cc)
    by_test true p false q rest = rest
    by_test false p true q rest = ap (λ (b : Bool). cond b (Some x) (lease_of worker (without worker xs))) p ∙ rest
    by_test false p false q rest = absurd (cc)

pub without-other : (worker v : ℕ) (ls : List LeaseOut) → (v ≡ worker → ⊥) → lease_of v (without worker ls) ≡ lease_of v ls
without-other worker v [] other = refl
without-other worker v (x ∷ xs) other = by_test (x.worker == worker) refl (nat_lt x.worker worker || nat_lt worker x.worker) (others x.worker worker) (x.worker == v) refl (without-other worker v xs other)
  where
    by_test : (b : Bool) → (x.worker == worker) ≡ b → (c : Bool) → c ≡ not b → (d : Bool) → (x.worker == v) ≡ d → lease_of v (without worker xs) ≡ lease_of v xs → lease_of v (cond c (x ∷ without worker xs) (without worker xs)) ≡ cond d (Some x) (lease_of v xs)
    by_test true p true q d r rest = absurd (cc)
    by_test true p false q true r rest = absurd (other (sym ((Decides-eqb x.worker v).0 r) ∙ (Decides-eqb x.worker worker).0 p))
    by_test true p false q false r rest = rest
    by_test false p true q d r rest = ap (λ (b : Bool). cond b (Some x) (lease_of v (without worker xs))) r ∙ ap (λ (o : Option LeaseOut). cond d (Some x) o) rest
    by_test false p false q d r rest = absurd (cc)

-- the tag of a job that was started
abbrev pub and_started : Tag → ℕ → ℕ → Tag
and_started t index start = record { key = t.key; number = t.number; starts = slice_set t.starts index start }

-- a start; no other lease is of that node
pub spots-start : (workers : ℕ) (past : List Event) (tags : List Tag) (spots : List (Option Spot)) (w place index start : ℕ) (tag : Tag) → slice_get tags place ≡ Some tag → index ≤ 63 → w < workers → lease_of (suc w) (leases past) ≡ None → start ≡ starts_in past + 1 → ((v : ℕ) (i : ℕ) → lease_of v (leases past) ≡ Some (record { worker = v; key = tag.key; index = i }) → i ≡ index → ⊥) → AreSpots workers past tags spots → AreSpots workers (past ++ Start tag.key index (suc w) ∷ []) (slice_set tags place (and_started tag index start)) (slice_set spots w (Some (record { job = tag.number; index = index; start = start })))
spots-start workers past tags spots w place index start tag at low bound idle next home are = record {
  count = set-count spots w (Some mine) ∙ are.count;
  each = λ n below. by_worker n below (w == n) refl;
  tagged = λ n t e. by_place n t e (place == n) refl;
}
  where
    now : List Event
    now = past ++ Start tag.key index (suc w) ∷ []

    mine : Spot
    mine = record { job = tag.number; index = index; start = start }

    held : LeaseOut
    held = record { worker = suc w; key = tag.key; index = index }

    out : leases now ≡ leases past ++ held ∷ []
    out = leases-push past (Start tag.key index (suc w))

    long : length tag.starts ≡ 64
    long = (are.tagged place tag at).places

    all : (worker : ℕ) → (numbered worker past).all ≡ starts_in past
    all worker = numbered-all worker 0 0 past

    number_mine : start ≡ start_number (suc w) now
    number_mine = next ∙ (ap (λ (n : ℕ). n + 1) (sym (all (suc w))) ∙ sym (ap (λ n. n.last) (numbered-push (suc w) past (Start tag.key index (suc w))) ∙ ap (λ (b : Bool). cond b ((numbered (suc w) past).all + 1) (numbered (suc w) past).last) ((Decides-eqb (suc w) (suc w)).1 refl)))

    number_other : (v : ℕ) → (suc w ≡ v → ⊥) → start_number v now ≡ start_number v past
    number_other v other = ap (λ n. n.last) (numbered-push v past (Start tag.key index (suc w))) ∙ ap (λ (b : Bool). cond b ((numbered v past).all + 1) (numbered v past).last) (differs (suc w) v other)

    here : IsAt now (slice_set tags place (and_started tag index start)) (suc w) mine
    here = record {
      place = place;
      tag = and_started tag index start;
      at = get-here tags place (and_started tag index start) tag at;
      job = refl;
      out = ap (lease_of (suc w)) out ∙ push-mine (leases past) held idle;
      number = number_mine;
      started = set-here tag.starts index start 0 (omega (arith, low, long));
      low = low;
    }

    moved : (n : ℕ) (spot : Spot) → (suc w ≡ suc n → ⊥) → (h : IsAt past tags (suc n) spot) → (b : Bool) → (place == h.place) ≡ b → IsAt now (slice_set tags place (and_started tag index start)) (suc n) spot
    moved n spot other h true e =
        let same : place ≡ h.place = (Decides-eqb place h.place).0 e in
        let both : Some tag ≡ Some h.tag = sym at ∙ (ap (slice_get tags) same ∙ h.at) in
        let equal : tag ≡ h.tag = cc in
        let apart : index ≡ spot.index → ⊥ = λ q. home (suc n) spot.index (ap (lease_of (suc n)) refl ∙ (h.out ∙ ap (λ (t : Tag). let o : Option LeaseOut = Some (record { worker = suc n; key = t.key; index = spot.index }) in o) (sym equal))) (sym q) in
        record {
          place = h.place;
          tag = and_started tag index start;
          at = ap (slice_get (slice_set tags place (and_started tag index start))) (sym same) ∙ get-here tags place (and_started tag index start) tag at;
          job = ap (λ (t : Tag). t.number) equal ∙ h.job;
          out = ap (lease_of (suc n)) out ∙ (push-other (leases past) held (suc n) other ∙ (h.out ∙ ap (λ (t : Tag). let o : Option LeaseOut = Some (record { worker = suc n; key = t.key; index = spot.index }) in o) (sym equal)));
          number = h.number ∙ sym (number_other (suc n) other);
          started = set-there tag.starts index spot.index start 0 apart ∙ (ap (λ (t : Tag). get_or t.starts spot.index 0) equal ∙ h.started);
          low = h.low;
        }
    moved n spot other h false e = record {
      place = h.place;
      tag = h.tag;
      at = get-there tags place h.place (and_started tag index start) (λ q. both_ways (place == h.place) e ((Decides-eqb place h.place).1 q)) ∙ h.at;
      job = h.job;
      out = ap (lease_of (suc n)) out ∙ (push-other (leases past) held (suc n) other ∙ h.out);
      number = h.number ∙ sym (number_other (suc n) other);
      started = h.started;
      low = h.low;
    }

    stays : (n : ℕ) (o : Option Spot) → (suc w ≡ suc n → ⊥) → IsSpot past tags (suc n) o → IsSpot now (slice_set tags place (and_started tag index start)) (suc n) o
    stays n None other h = ap (lease_of (suc n)) out ∙ (push-other (leases past) held (suc n) other ∙ h)
    stays n (Some spot) other h = moved n spot other h (place == h.place) refl

    by_worker : (n : ℕ) → n < workers → (b : Bool) → (w == n) ≡ b → IsSpot now (slice_set tags place (and_started tag index start)) (suc n) (get_or (slice_set spots w (Some mine)) n None)
    by_worker n below true e =
        let same : w ≡ n = (Decides-eqb w n).0 e in
        let inside : w < length spots = omega (arith, bound, are.count) in
        subst (λ (m : ℕ). IsSpot now (slice_set tags place (and_started tag index start)) (suc m) (get_or (slice_set spots w (Some mine)) m None)) same (subst (λ (o : Option Spot). IsSpot now (slice_set tags place (and_started tag index start)) (suc w) o) (sym (set-here spots w (Some mine) None inside)) here)
    by_worker n below false e =
        let other : w ≡ n → ⊥ = λ q. both_ways (w == n) e ((Decides-eqb w n).1 q) in
        subst (λ (o : Option Spot). IsSpot now (slice_set tags place (and_started tag index start)) (suc n) o) (sym (set-there spots w n (Some mine) None other)) (stays n (get_or spots n None) (λ q. other (omega (arith, q))) (are.each n below))

    keeps : (t : Tag) → IsTagged past t → t.number ≡ job_number t.key now
    keeps t tagged = tagged.number ∙ sym (number-stays t.key past (Start tag.key index (suc w)) (record { steps = λ j m. refl; counts = λ m. refl }))

    by_place : (n : ℕ) (t : Tag) → slice_get (slice_set tags place (and_started tag index start)) n ≡ Some t → (b : Bool) → (place == n) ≡ b → IsTagged now t
    by_place n t e true q =
        let same : place ≡ n = (Decides-eqb place n).0 q in
        let found : Some (and_started tag index start) ≡ Some t = sym (get-here tags place (and_started tag index start) tag at) ∙ (ap (slice_get (slice_set tags place (and_started tag index start))) same ∙ e) in
        let equal : and_started tag index start ≡ t = cc in
        subst (IsTagged now) equal (record { number = keeps tag (are.tagged place tag at); places = set-count tag.starts index start ∙ long })
    by_place n t e false q =
        let tagged : IsTagged past t = are.tagged n t (sym (get-there tags place n (and_started tag index start) (λ r. both_ways (place == n) q ((Decides-eqb place n).1 r))) ∙ e) in
        record { number = keeps t tagged; places = tagged.places }

-- a finish
pub spots-finish : (workers : ℕ) (past : List Event) (tags : List Tag) (spots : List (Option Spot)) (w index : ℕ) (k : Key) (outcome : Outcome) → AreSpots workers past tags spots → AreSpots workers (past ++ Finish k index (suc w) outcome ∷ []) tags (slice_set spots w None)
spots-finish workers past tags spots w index k outcome are = record { count = set-count spots w None ∙ are.count; each = λ n below. by_worker n below (w == n) refl; tagged = λ n t e. keeps t (are.tagged n t e) }
  where
    now : List Event
    now = past ++ Finish k index (suc w) outcome ∷ []

    out : leases now ≡ without (suc w) (leases past)
    out = leases-push past (Finish k index (suc w) outcome)

    keeps : (t : Tag) → IsTagged past t → IsTagged now t
    keeps t tagged = record { number = tagged.number ∙ sym (number-stays t.key past (Finish k index (suc w) outcome) (record { steps = λ j m. refl; counts = λ m. refl })); places = tagged.places }

    stays : (n : ℕ) (o : Option Spot) → (suc n ≡ suc w → ⊥) → IsSpot past tags (suc n) o → IsSpot now tags (suc n) o
    stays n None other h = ap (lease_of (suc n)) out ∙ (without-other (suc w) (suc n) (leases past) other ∙ h)
    stays n (Some spot) other h = record {
      place = h.place;
      tag = h.tag;
      at = h.at;
      job = h.job;
      out = ap (lease_of (suc n)) out ∙ (without-other (suc w) (suc n) (leases past) other ∙ h.out);
      number = h.number ∙ sym (ap (λ m. m.last) (numbered-push (suc n) past (Finish k index (suc w) outcome)));
      started = h.started;
      low = h.low;
    }

    by_worker : (n : ℕ) → n < workers → (b : Bool) → (w == n) ≡ b → IsSpot now tags (suc n) (get_or (slice_set spots w None) n None)
    by_worker n below true e =
        let same : w ≡ n = (Decides-eqb w n).0 e in
        let inside : w < length spots = omega (arith, same, below, are.count) in
        subst (λ (m : ℕ). IsSpot now tags (suc m) (get_or (slice_set spots w None) m None)) same (subst (λ (o : Option Spot). IsSpot now tags (suc w) o) (sym (set-here spots w None None inside)) (ap (lease_of (suc w)) out ∙ without-mine (suc w) (leases past)))
    by_worker n below false e =
        let other : w ≡ n → ⊥ = λ q. both_ways (w == n) e ((Decides-eqb w n).1 q) in
        subst (λ (o : Option Spot). IsSpot now tags (suc n) o) (sym (set-there spots w n None None other)) (stays n (get_or spots n None) (λ q. other (omega (arith, q))) (are.each n below))

-- no worker has a spot at first
pub spots-none : (workers : ℕ) → AreSpots workers [] [] (replicate workers None)
spots-none workers = record { count = length-replicate workers None; each = λ n low. subst (IsSpot [] [] (suc n)) (sym (none workers n)) refl; tagged = λ n t e. absurd (cc) }
  where
    no_spot : Option Spot
    no_spot = None

    none : (m n : ℕ) → get_or (replicate m no_spot) n no_spot ≡ no_spot
    none zero n = refl
    none (suc m) zero = refl
    none (suc m) (suc n) = none m n
