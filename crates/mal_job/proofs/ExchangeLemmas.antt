-- An exchange moves the marks of the first places, and tells what these export.
use Rattle.std.proofs.Common.{◌≡◌, ℕ, zero, suc, ◌+◌, ◌-◌, ◌<◌, ◌≤◌, Bool, true, false, cond, ◌&&◌, List, [], ◌∷◌, ◌++◌, length, map, take, replicate, refl, sym, ◌∙◌, ap, arith}
use Rattle.std.specs.Prelude.{is_none}
use Rattle.std.proofs.lemmas.Bool.{lt-ltb, le-ltb}
use Rattle.std.proofs.lemmas.List.{length-take-le, length-map}
use Rattle.mal_base.specs.declared.profile.Profile.{Profile}
use Rattle.mal_base.specs.NumberedClause.{NumberedClause, Line}
use Rattle.spec_job.specs.SoloMachine.{NodeSlot, vacant, exports_of, takes_part, exports_from, marked_from}
use Rattle.spec_job.specs.Journaled.{Journaled}
use Rattle.mal_job.specs.Viewed.{PlaceView, place_of, places_of, starts_of}
use Rattle.mal_job.specs.Placing.{AreOwn}
use Rattle.mal_job.specs.Exports.{marked_at, marked}

-- no place from the volume on takes part
beyond-part : (v k : ℕ) (p : NodeSlot) → v ≤ k → takes_part v k p ≡ false
beyond-part v k p low = ap (λ (b : Bool). b && is_none p.out) (le-ltb k v low)

pub beyond-marked : (v mark k : ℕ) (ps : List NodeSlot) → v ≤ k → marked_from v mark k ps ≡ ps
beyond-marked v mark k [] low = refl
beyond-marked v mark k (p ∷ ps) low =
    ap (λ (b : Bool). cond b (record p { mark = mark }) p ∷ marked_from v mark (k + 1) ps) (beyond-part v k p low)
    ∙ ap (λ (qs : List NodeSlot). p ∷ qs) (beyond-marked v mark (k + 1) ps (omega arith))

beyond-exports : (v : ℕ) (log : List Line) (k : ℕ) (ps : List NodeSlot) → v ≤ k → exports_from v log k ps ≡ []
beyond-exports v log k [] low = refl
beyond-exports v log k (p ∷ ps) low =
    ap (λ (b : Bool). cond b (exports_of log k p) [] ++ exports_from v log (k + 1) ps) (beyond-part v k p low)
    ∙ beyond-exports v log (k + 1) ps (omega arith)

-- below it those that are at home do
below-part : (v k : ℕ) (p : PlaceView) → k < v → takes_part v k (place_of p) ≡ is_none p.out
below-part v k p low = ap (λ (b : Bool). b && is_none p.out) (lt-ltb k v low)

marked-place : (mark : ℕ) (p : PlaceView) → cond (is_none p.out) (record (place_of p) { mark = mark }) (place_of p) ≡ place_of (marked_at mark p)
marked-place mark p = by_test (is_none p.out)
  where
    by_test : (b : Bool) → cond b (record (place_of p) { mark = mark }) (place_of p) ≡ place_of (cond b (record p { mark = mark }) p)
    by_test true = refl
    by_test false = refl

front-marked : (v left mark k : ℕ) (ps : List PlaceView) (rest : List NodeSlot) → k + left ≡ v → left ≤ length ps → marked_from v mark k (map place_of ps ++ rest) ≡ map place_of (marked left mark ps) ++ rest
front-marked v zero mark k ps rest e low = beyond-marked v mark k (map place_of ps ++ rest) (omega arith)
front-marked v (suc left) mark k [] rest e low = absurd (omega arith)
front-marked v (suc left) mark k (p ∷ ps) rest e low =
    ap (λ (b : Bool). cond b (record (place_of p) { mark = mark }) (place_of p) ∷ marked_from v mark (k + 1) (map place_of ps ++ rest)) (below-part v k p (omega arith))
    ∙ (ap (λ (x : NodeSlot). x ∷ marked_from v mark (k + 1) (map place_of ps ++ rest)) (marked-place mark p)
    ∙ ap (λ (xs : List NodeSlot). place_of (marked_at mark p) ∷ xs) (front-marked v left mark (k + 1) ps rest (omega arith) (omega arith)))

pub length-marked : (n mark : ℕ) (ps : List PlaceView) → length (marked n mark ps) ≡ length ps
length-marked zero mark ps = refl
length-marked (suc n) mark [] = refl
length-marked (suc n) mark (p ∷ ps) = ap (λ (j : ℕ). suc j) (length-marked n mark ps)

-- the marks that are moved
pub places-marked : (v mark : ℕ) (ps : List PlaceView) → v ≤ length ps → marked_from v mark 0 (places_of ps) ≡ places_of (marked v mark ps)
places-marked v mark ps low =
    let one : length (map place_of ps) ≡ length ps = length-map ps place_of in
    let two : length (map place_of (marked v mark ps)) ≡ length (marked v mark ps) = length-map (marked v mark ps) place_of in
    let same : length (map place_of ps) ≡ length (map place_of (marked v mark ps)) = one ∙ (sym (length-marked v mark ps) ∙ sym two) in
    front-marked v v mark 0 ps (replicate (64 - length (map place_of ps)) vacant) (omega arith) low ∙ ap (λ (n : ℕ). map place_of (marked v mark ps) ++ replicate (64 - n) vacant) same

-- they leave the numbers of the starts and the journals
marked-start : (mark : ℕ) (p : PlaceView) → (marked_at mark p).journal ≡ p.journal
marked-start mark p = by_test (is_none p.out)
  where
    by_test : (b : Bool) → (cond b (record p { mark = mark }) p).journal ≡ p.journal
    by_test true = refl
    by_test false = refl

starts-front : (n mark : ℕ) (ps : List PlaceView) → map (λ (p : PlaceView). p.journal.start) (marked n mark ps) ≡ map (λ (p : PlaceView). p.journal.start) ps
starts-front zero mark ps = refl
starts-front (suc n) mark [] = refl
starts-front (suc n) mark (p ∷ ps) =
    ap (λ (j : Journaled). j.start ∷ map (λ (x : PlaceView). x.journal.start) (marked n mark ps)) (marked-start mark p)
    ∙ ap (λ (xs : List ℕ). p.journal.start ∷ xs) (starts-front n mark ps)

pub starts-marked : (n mark : ℕ) (ps : List PlaceView) → starts_of (marked n mark ps) ≡ starts_of ps
starts-marked n mark ps = ap (λ (xs : List ℕ). xs ++ replicate (64 - length (marked n mark ps)) 0) (starts-front n mark ps) ∙ ap (λ (k : ℕ). map (λ (p : PlaceView). p.journal.start) ps ++ replicate (64 - k) 0) (length-marked n mark ps)

pub own-marked : (number : ℕ) (profile : Profile) (k n mark : ℕ) (ps : List PlaceView) → AreOwn number profile k ps → AreOwn number profile k (marked n mark ps)
own-marked number profile k zero mark ps all = all
own-marked number profile k (suc n) mark [] all = all
own-marked number profile k (suc n) mark (p ∷ ps) all =
    let same : (marked_at mark p).journal ≡ p.journal = marked-start mark p in
    (ap (λ (j : Journaled). j.job) same ∙ all.0, ap (λ (j : Journaled). j.index) same ∙ all.1, ap (λ (j : Journaled). j.profile) same ∙ all.2, own-marked number profile (k + 1) n mark ps all.3)

-- what the first places export
front-exports : (v left k : ℕ) (log : List Line) (ps : List PlaceView) (rest : List NodeSlot) → k + left ≡ v → left ≤ length ps → exports_from v log k (map place_of (take left ps)) ≡ exports_from v log k (map place_of ps ++ rest)
front-exports v zero k log ps rest e low = sym (beyond-exports v log k (map place_of ps ++ rest) (omega arith))
front-exports v (suc left) k log [] rest e low = absurd (omega arith)
front-exports v (suc left) k log (p ∷ ps) rest e low = ap (λ (es : List NumberedClause). cond (takes_part v k (place_of p)) (exports_of log k (place_of p)) [] ++ es) (front-exports v left (k + 1) log ps rest (omega arith) (omega arith))

pub exports-are : (v : ℕ) (log : List Line) (ps : List PlaceView) → v ≤ length ps → exports_from (length (take v ps)) log 0 (map place_of (take v ps)) ≡ exports_from v log 0 (places_of ps)
exports-are v log ps low =
    ap (λ (n : ℕ). exports_from n log 0 (map place_of (take v ps))) (length-take-le v ps low)
    ∙ front-exports v v 0 log ps (replicate (64 - length (map place_of ps)) vacant) (omega arith) low
