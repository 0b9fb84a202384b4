-- The places of a tree: one is set, some are made, and how many are out.
use Rattle.std.proofs.Common.{◌≡◌, ℕ, zero, suc, ◌+◌, ◌-◌, ◌<◌, ◌≤◌, true, false, List, [], ◌∷◌, ◌++◌, length, map, replicate, get_or, inl, inr, ◌⊎◌, refl, sym, ◌∙◌, ap, subst, arith, length-append}
use Rattle.std.specs.Prelude.{slice_set, is_some}
use Rattle.std.proofs.lemmas.List.{length-replicate, length-map}
use Rattle.std.proofs.lemmas.List.Sums.{sum_by-cons}
use Rattle.mal_base.specs.declared.profile.Profile.{Profile}
use Rattle.mal_base.specs.declared.profile.Profile.TheVariants.{Plain}
use Rattle.spec_job.proofs.AgreeLemmas.{le-or_lt}
use Rattle.spec_job.specs.Counts.{runs_in, runs_of}
use Rattle.spec_job.specs.SoloMachine.{NodeSlot, vacant}
use Rattle.mal_job.specs.Viewed.{PlaceView, place_of, places_of, starts_of}
use Rattle.mal_job.specs.Placing.{fresh_place, fresh_from, IsGrown, AreOwn}

lt-or_le : (i n : ℕ) → (i < n) ⊎ (n ≤ i)
lt-or_le i n = turned (le-or_lt n i)
  where
    turned : (n ≤ i) ⊎ (i < n) → (i < n) ⊎ (n ≤ i)
    turned (inl a) = inr a
    turned (inr a) = inl a

pub length-set : {X : Type 0} (xs : List X) (i : ℕ) (x : X) → length (slice_set xs i x) ≡ length xs
length-set [] i x = refl
length-set (y ∷ ys) zero x = refl
length-set (y ∷ ys) (suc i) x = ap (λ (n : ℕ). suc n) (length-set ys i x)

-- a place that is set as it was
pub set-same : (ps : List PlaceView) (i : ℕ) (old new : PlaceView) → old ≡ get_or ps i old → new ≡ old → slice_set ps i new ≡ ps
set-same [] i old new e f = refl
set-same (p ∷ ps) zero old new e f = ap (λ (x : PlaceView). x ∷ ps) (f ∙ e)
set-same (p ∷ ps) (suc i) old new e f = ap (λ (xs : List PlaceView). p ∷ xs) (set-same ps i old new e f)

set-front : (ps : List PlaceView) (rest : List NodeSlot) (i : ℕ) (p : PlaceView) → i < length ps → slice_set (map place_of ps ++ rest) i (place_of p) ≡ map place_of (slice_set ps i p) ++ rest
set-front [] rest i p low = absurd (omega arith)
set-front (x ∷ xs) rest zero p low = refl
set-front (x ∷ xs) rest (suc i) p low = ap (λ (ys : List NodeSlot). place_of x ∷ ys) (set-front xs rest i p (omega arith))

-- a place that is set
pub set-placed : (ps : List PlaceView) (i : ℕ) (p : PlaceView) → i < length ps → slice_set (places_of ps) i (place_of p) ≡ places_of (slice_set ps i p)
set-placed ps i p low =
    let one : length (map place_of ps) ≡ length ps = length-map ps place_of in
    let two : length (map place_of (slice_set ps i p)) ≡ length (slice_set ps i p) = length-map (slice_set ps i p) place_of in
    let same : length (map place_of ps) ≡ length (map place_of (slice_set ps i p)) = one ∙ (sym (length-set ps i p) ∙ sym two) in
    set-front ps (replicate (64 - length (map place_of ps)) vacant) i p low ∙ ap (λ (n : ℕ). map place_of (slice_set ps i p) ++ replicate (64 - n) vacant) same

-- the place at an index
placed-front : (ps : List PlaceView) (rest : List NodeSlot) (i : ℕ) (d : PlaceView) → i < length ps → get_or (map place_of ps ++ rest) i vacant ≡ place_of (get_or ps i d)
placed-front [] rest i d low = absurd (omega arith)
placed-front (x ∷ xs) rest zero d low = refl
placed-front (x ∷ xs) rest (suc i) d low = placed-front xs rest i d (omega arith)

pub placed-at : (ps : List PlaceView) (i : ℕ) (d : PlaceView) → i < length ps → get_or (places_of ps) i vacant ≡ place_of (get_or ps i d)
placed-at ps i d low = placed-front ps (replicate (64 - length (map place_of ps)) vacant) i d low

vacant-at : (n i : ℕ) → get_or (replicate n vacant) i vacant ≡ vacant
vacant-at zero i = refl
vacant-at (suc n) zero = refl
vacant-at (suc n) (suc i) = vacant-at n i

vacant-back : (ps : List PlaceView) (n i : ℕ) → length ps ≤ i → get_or (map place_of ps ++ replicate n vacant) i vacant ≡ vacant
vacant-back [] n i low = vacant-at n i
vacant-back (x ∷ xs) n zero low = absurd (omega arith)
vacant-back (x ∷ xs) n (suc i) low = vacant-back xs n i (omega arith)

pub placed-behind : (ps : List PlaceView) (i : ℕ) → length ps ≤ i → get_or (places_of ps) i vacant ≡ vacant
placed-behind ps i low = vacant-back ps (64 - length (map place_of ps)) i low

pub length-filled : (ps : List PlaceView) → length ps ≤ 64 → length (places_of ps) ≡ 64
length-filled ps low =
    let one : length (map place_of ps) ≡ length ps = length-map ps place_of in
    let all : length (map place_of ps ++ replicate (64 - length (map place_of ps)) vacant) ≡ length (map place_of ps) + length (replicate (64 - length (map place_of ps)) vacant) = length-append (map place_of ps) (replicate (64 - length (map place_of ps)) vacant) in
    let rest : length (replicate (64 - length (map place_of ps)) vacant) ≡ 64 - length (map place_of ps) = length-replicate (64 - length (map place_of ps)) vacant in
    omega arith

pub get-within : (ps : List PlaceView) (i : ℕ) (d e : PlaceView) → i < length ps → get_or ps i d ≡ get_or ps i e
get-within [] i d e low = absurd (omega arith)
get-within (x ∷ xs) zero d e low = refl
get-within (x ∷ xs) (suc i) d e low = get-within xs i d e (omega arith)

pub get-behind : (ps : List PlaceView) (i : ℕ) (d : PlaceView) → length ps ≤ i → get_or ps i d ≡ d
get-behind [] i d low = refl
get-behind (x ∷ xs) zero d low = absurd (omega arith)
get-behind (x ∷ xs) (suc i) d low = get-behind xs i d (omega arith)

-- a place that is out is one of them
pub out-within : (ps : List PlaceView) (i n k : ℕ) → is_some (get_or ps i (fresh_place n Plain k)).out ≡ true → i < length ps
out-within ps i n k e = by_place (get_or ps i (fresh_place n Plain k)) refl e
  where
    by_test : (i < length ps) ⊎ (length ps ≤ i) → (p : PlaceView) → get_or ps i (fresh_place n Plain k) ≡ p → is_some p.out ≡ true → i < length ps
    by_test (inl low) p f g = low
    by_test (inr high) p f g =
        let none : p ≡ fresh_place n Plain k = sym f ∙ get-behind ps i (fresh_place n Plain k) high in
        let no : false ≡ true = ap (λ (x : PlaceView). is_some x.out) (sym none) ∙ g in
        absurd (cc)

    by_place : (p : PlaceView) → get_or ps i (fresh_place n Plain k) ≡ p → is_some p.out ≡ true → i < length ps
    by_place p f g = by_test (lt-or_le i (length ps)) p f g

-- the place of the machine and that of the tree have the same start out
pub out-same : (ps : List PlaceView) (i n k : ℕ) → (get_or (places_of ps) i vacant).out ≡ (get_or ps i (fresh_place n Plain k)).out
out-same ps i n k = by_test (lt-or_le i (length ps))
  where
    by_test : (i < length ps) ⊎ (length ps ≤ i) → (get_or (places_of ps) i vacant).out ≡ (get_or ps i (fresh_place n Plain k)).out
    by_test (inl low) = ap (λ (p : NodeSlot). p.out) (placed-at ps i (fresh_place n Plain k) low)
    by_test (inr high) = ap (λ (p : NodeSlot). p.out) (placed-behind ps i high) ∙ ap (λ (p : PlaceView). p.out) (sym (get-behind ps i (fresh_place n Plain k) high))

-- places that are made are vacant
pub fresh-length : (number : ℕ) (profile : Profile) (k n : ℕ) → length (fresh_from number profile k n) ≡ n
fresh-length number profile k zero = refl
fresh-length number profile k (suc n) = ap (λ (j : ℕ). suc j) (fresh-length number profile (k + 1) n)

fresh-vacant : (number : ℕ) (profile : Profile) (k n : ℕ) → map place_of (fresh_from number profile k n) ≡ replicate n vacant
fresh-vacant number profile k zero = refl
fresh-vacant number profile k (suc n) = ap (λ (ps : List NodeSlot). vacant ∷ ps) (fresh-vacant number profile (k + 1) n)

fresh-starts : (number : ℕ) (profile : Profile) (k n : ℕ) → map (λ (p : PlaceView). p.journal.start) (fresh_from number profile k n) ≡ replicate n 0
fresh-starts number profile k zero = refl
fresh-starts number profile k (suc n) = ap (λ (ps : List ℕ). 0 ∷ ps) (fresh-starts number profile (k + 1) n)

repeated : {X : Type 0} (x : X) (j m : ℕ) → replicate j x ++ replicate m x ≡ replicate (j + m) x
repeated x zero m = let same : m ≡ 0 + m = omega arith in ap (λ (n : ℕ). replicate n x) same
repeated x (suc j) m = let same : suc (j + m) ≡ suc j + m = omega arith in ap (λ (ps : List _). x ∷ ps) (repeated x j m) ∙ ap (λ (n : ℕ). replicate n x) same

grown-front : (number : ℕ) (profile : Profile) (ps : List PlaceView) (k n m : ℕ) → map place_of (ps ++ fresh_from number profile k n) ++ replicate m vacant ≡ map place_of ps ++ replicate (n + m) vacant
grown-front number profile [] k n m = ap (λ (xs : List NodeSlot). xs ++ replicate m vacant) (fresh-vacant number profile k n) ∙ repeated vacant n m
grown-front number profile (x ∷ xs) k n m = ap (λ (ys : List NodeSlot). place_of x ∷ ys) (grown-front number profile xs k n m)

grown-rear : (number : ℕ) (profile : Profile) (ps : List PlaceView) (k n m : ℕ) → map (λ (p : PlaceView). p.journal.start) (ps ++ fresh_from number profile k n) ++ replicate m 0 ≡ map (λ (p : PlaceView). p.journal.start) ps ++ replicate (n + m) 0
grown-rear number profile [] k n m = ap (λ (xs : List ℕ). xs ++ replicate m 0) (fresh-starts number profile k n) ∙ repeated 0 n m
grown-rear number profile (x ∷ xs) k n m = ap (λ (ys : List ℕ). x.journal.start ∷ ys) (grown-rear number profile xs k n m)

pub grown-length : (number : ℕ) (profile : Profile) (ps qs : List PlaceView) → (g : IsGrown number profile ps qs) → length qs ≡ length ps + g.0
grown-length number profile ps qs (n, e) =
    let all : length (ps ++ fresh_from number profile (length ps) n) ≡ length ps + length (fresh_from number profile (length ps) n) = length-append ps (fresh_from number profile (length ps) n) in
    let more : length (fresh_from number profile (length ps) n) ≡ n = fresh-length number profile (length ps) n in
    let same : length qs ≡ length (ps ++ fresh_from number profile (length ps) n) = ap (λ (xs : List PlaceView). length xs) e in
    omega arith

pub grown-places : (number : ℕ) (profile : Profile) (ps qs : List PlaceView) → IsGrown number profile ps qs → length qs ≤ 64 → places_of qs ≡ places_of ps
grown-places number profile ps qs (n, e) low =
    let one : length (map place_of qs) ≡ length qs = length-map qs place_of in
    let two : length (map place_of ps) ≡ length ps = length-map ps place_of in
    let all : length qs ≡ length ps + n = grown-length number profile ps qs (n, e) in
    let sum : n + (64 - length (map place_of qs)) ≡ 64 - length (map place_of ps) = omega arith in
    ap (λ (xs : List PlaceView). map place_of xs ++ replicate (64 - length (map place_of qs)) vacant) e ∙ (grown-front number profile ps (length ps) n (64 - length (map place_of qs)) ∙ ap (λ (x : ℕ). map place_of ps ++ replicate x vacant) sum)

pub grown-starts : (number : ℕ) (profile : Profile) (ps qs : List PlaceView) → IsGrown number profile ps qs → length qs ≤ 64 → starts_of qs ≡ starts_of ps
grown-starts number profile ps qs (n, e) low =
    let all : length qs ≡ length ps + n = grown-length number profile ps qs (n, e) in
    let sum : n + (64 - length qs) ≡ 64 - length ps = omega arith in
    ap (λ (xs : List PlaceView). map (λ (p : PlaceView). p.journal.start) xs ++ replicate (64 - length qs) 0) e ∙ (grown-rear number profile ps (length ps) n (64 - length qs) ∙ ap (λ (x : ℕ). map (λ (p : PlaceView). p.journal.start) ps ++ replicate x 0) sum)

-- one place more is made
grown-append : (number : ℕ) (profile : Profile) (ps : List PlaceView) (k n : ℕ) → (ps ++ fresh_from number profile k n) ++ fresh_place number profile (k + n) ∷ [] ≡ ps ++ fresh_from number profile k (suc n)
grown-append number profile [] k n = made k n
  where
    made : (k n : ℕ) → fresh_from number profile k n ++ fresh_place number profile (k + n) ∷ [] ≡ fresh_from number profile k (suc n)
    made k zero = let same : k + 0 ≡ k = omega arith in ap (λ (j : ℕ). fresh_place number profile j ∷ []) same
    made k (suc n) = let same : k + suc n ≡ k + 1 + n = omega arith in ap (λ (j : ℕ). fresh_place number profile k ∷ (fresh_from number profile (k + 1) n ++ fresh_place number profile j ∷ [])) same ∙ ap (λ (ps : List PlaceView). fresh_place number profile k ∷ ps) (made (k + 1) n)
grown-append number profile (x ∷ xs) k n = ap (λ (ys : List PlaceView). x ∷ ys) (grown-append number profile xs k n)

pub grown-push : (number : ℕ) (profile : Profile) (ps qs : List PlaceView) (index : ℕ) → IsGrown number profile ps qs → length qs ≡ index → IsGrown number profile ps (qs ++ fresh_place number profile index ∷ [])
grown-push number profile ps qs index (n, e) f =
    let all : length qs ≡ length ps + n = grown-length number profile ps qs (n, e) in
    let same : index ≡ length ps + n = sym f ∙ all in
    (suc n, ap (λ (xs : List PlaceView). xs ++ fresh_place number profile index ∷ []) e ∙ (ap (λ (j : ℕ). (ps ++ fresh_from number profile (length ps) n) ++ fresh_place number profile j ∷ []) same ∙ grown-append number profile ps (length ps) n))

-- each place has the journal of its own node
pub own-at : (number : ℕ) (profile : Profile) (ps : List PlaceView) (k i : ℕ) (d : PlaceView) → i < length ps → AreOwn number profile k ps → ((get_or ps i d).journal.job ≡ number) × ((get_or ps i d).journal.index ≡ k + i) × ((get_or ps i d).journal.profile ≡ profile)
own-at number profile [] k i d low all = absurd (omega arith)
own-at number profile (p ∷ ps) k zero d low all = (all.0, all.1 ∙ omega arith, all.2)
own-at number profile (p ∷ ps) k (suc i) d low all = let rest = own-at number profile ps (k + 1) i d (omega arith) all.3 in (rest.0, rest.1 ∙ omega arith, rest.2)

pub own-set : (number : ℕ) (profile : Profile) (ps : List PlaceView) (k i : ℕ) (p : PlaceView) → p.journal.job ≡ number → p.journal.index ≡ k + i → p.journal.profile ≡ profile → AreOwn number profile k ps → AreOwn number profile k (slice_set ps i p)
own-set number profile [] k i p e f g all = tt
own-set number profile (x ∷ xs) k zero p e f g all = (e, f ∙ omega arith, g, all.3)
own-set number profile (x ∷ xs) k (suc i) p e f g all = (all.0, all.1, all.2, own-set number profile xs (k + 1) i p e (f ∙ omega arith) g all.3)

fresh-own : (number : ℕ) (profile : Profile) (k n : ℕ) → AreOwn number profile k (fresh_from number profile k n)
fresh-own number profile k zero = tt
fresh-own number profile k (suc n) = (refl, refl, refl, fresh-own number profile (k + 1) n)

append-own : (number : ℕ) (profile : Profile) (ps : List PlaceView) (k j n : ℕ) → j ≡ k + length ps → AreOwn number profile k ps → AreOwn number profile k (ps ++ fresh_from number profile j n)
append-own number profile [] k j n e all = let same : j ≡ k = e ∙ omega arith in subst (λ (m : ℕ). AreOwn number profile m (fresh_from number profile j n)) same (fresh-own number profile j n)
append-own number profile (p ∷ ps) k j n e all = (all.0, all.1, all.2, append-own number profile ps (k + 1) j n (omega (arith, e)) all.3)

pub grown-own : (number : ℕ) (profile : Profile) (ps qs : List PlaceView) → IsGrown number profile ps qs → AreOwn number profile 0 ps → AreOwn number profile 0 qs
grown-own number profile ps qs (n, e) all = let same : length ps ≡ 0 + length ps = omega arith in subst (λ (xs : List PlaceView). AreOwn number profile 0 xs) (sym e) (append-own number profile ps 0 (length ps) n same all)

-- a place has run no more slices than all
runs-cons : (p : NodeSlot) (ps : List NodeSlot) → runs_of (p ∷ ps) ≡ runs_in p.entries + runs_of ps
runs-cons p ps = sum_by-cons (λ (x : NodeSlot). runs_in x.entries) p ps

pub runs-least : (ps : List NodeSlot) (i : ℕ) → i < length ps → runs_in (get_or ps i vacant).entries ≤ runs_of ps
runs-least [] i low = absurd (omega arith)
runs-least (p ∷ ps) zero low = let cons : runs_of (p ∷ ps) ≡ runs_in p.entries + runs_of ps = runs-cons p ps in omega arith
runs-least (p ∷ ps) (suc i) low =
    let cons : runs_of (p ∷ ps) ≡ runs_in p.entries + runs_of ps = runs-cons p ps in
    let rest : runs_in (get_or ps i vacant).entries ≤ runs_of ps = runs-least ps i (omega arith) in
    omega arith

-- the place that was set
pub set-here : (ps : List PlaceView) (i : ℕ) (p d : PlaceView) → i < length ps → get_or (slice_set ps i p) i d ≡ p
set-here [] i p d low = absurd (omega arith)
set-here (x ∷ xs) zero p d low = refl
set-here (x ∷ xs) (suc i) p d low = set-here xs i p d (omega arith)
