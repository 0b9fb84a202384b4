-- Lists of what is apart are apart: nodes, and slices.
use Rattle.std.proofs.Common.{◌≡◌, ℕ, ◌<◌, ◌^◌, Bool, true, false, List, [], ◌∷◌, ◌++◌, length, refl, sym, ◌∙◌, append_assoc}
use Rattle.std.specs.Int.{w64}
use Rattle.std.specs.List.{flat_map, AllByRecursion}
use Rattle.mal_freeze.specs.Spelling.{spelled, phase_code}
use Rattle.spec_parcel.specs.Packed.{Placed, Told, listed, placed_bytes, sized, told_bytes}
use Rattle.spec_parcel.specs.Apart.{AreApart, AreShort, FitsPlaced, FitsTold, IsShort, NodesAreApart, SlicesAreApart}
use Rattle.spec_parcel.proofs.SizedLemmas.{spelled-apart, sized_are_apart}

-- as many of what is apart, one after the other
each-apart : {X : Type 0} (Fits : X → Type 0) (bytes_of : X → List ℕ) → AreApart Fits bytes_of → (xs ys : List X) (more rest : List ℕ) → AllByRecursion Fits xs → AllByRecursion Fits ys
    → length xs ≡ length ys → flat_map bytes_of xs ++ more ≡ flat_map bytes_of ys ++ rest → (xs ≡ ys) × (more ≡ rest)
each-apart Fits bytes_of apart [] [] more rest fit fits len e = (refl, e)
each-apart Fits bytes_of apart [] (y ∷ ys) more rest fit fits len e = absurd cc
each-apart Fits bytes_of apart (x ∷ xs) [] more rest fit fits len e = absurd cc
each-apart {X} Fits bytes_of apart (x ∷ xs) (y ∷ ys) more rest fit fits len e =
    let regrouped : bytes_of x ++ (flat_map bytes_of xs ++ more) ≡ bytes_of y ++ (flat_map bytes_of ys ++ rest) = sym (append_assoc (bytes_of x) (flat_map bytes_of xs) more) ∙ e ∙ append_assoc (bytes_of y) (flat_map bytes_of ys) rest in
    let first = apart x y (flat_map bytes_of xs ++ more) (flat_map bytes_of ys ++ rest) fit.0 fits.0 regrouped in
    let same : length xs ≡ length ys = cc in
    let others = each-apart Fits bytes_of apart xs ys more rest fit.1 fits.1 same first.1 in
    let heads : x ≡ y = first.0 in
    let tails : xs ≡ ys = others.0 in
    let both : x ∷ xs ≡ y ∷ ys = cc in
    (both, others.1)

-- a list after its length is apart where its elements are
pub listed-apart : {X : Type 0} (Fits : X → Type 0) (bytes_of : X → List ℕ) → AreApart Fits bytes_of → AreApart (AreShort Fits) (listed bytes_of)
listed-apart Fits bytes_of apart xs ys more rest fit fits e =
    let regrouped : spelled w64 (length xs) ++ (flat_map bytes_of xs ++ more) ≡ spelled w64 (length ys) ++ (flat_map bytes_of ys ++ rest) = sym (append_assoc (spelled w64 (length xs)) (flat_map bytes_of xs) more) ∙ e ∙ append_assoc (spelled w64 (length ys)) (flat_map bytes_of ys) rest in
    let front = spelled-apart (length xs) (length ys) (flat_map bytes_of xs ++ more) (flat_map bytes_of ys ++ rest) fit.0 fits.0 regrouped in
    each-apart Fits bytes_of apart xs ys more rest fit.1 fits.1 front.0 front.1

-- a number of 8 bytes and bytes after their length
pair-apart : (m n : ℕ) (xs ys more rest : List ℕ) → m < 2 ^ 64 → n < 2 ^ 64 → IsShort xs → IsShort ys → (spelled w64 m ++ sized xs) ++ more ≡ (spelled w64 n ++ sized ys) ++ rest → (m ≡ n) × ((xs ≡ ys) × (more ≡ rest))
pair-apart m n xs ys more rest small fits short shorts e =
    let regrouped : spelled w64 m ++ (sized xs ++ more) ≡ spelled w64 n ++ (sized ys ++ rest) = sym (append_assoc (spelled w64 m) (sized xs) more) ∙ e ∙ append_assoc (spelled w64 n) (sized ys) rest in
    let front = spelled-apart m n (sized xs ++ more) (sized ys ++ rest) small fits regrouped in
    (front.0, sized_are_apart xs ys more rest short shorts front.1)

abbrev node : ℕ → List ℕ → Placed
node i image = record { index = i; image = image }

placed-apart : AreApart FitsPlaced placed_bytes
placed-apart p q more rest fit fits e =
    let parts = pair-apart p.index q.index p.image q.image more rest fit.index fits.index fit.image fits.image e in
    (same p.index q.index p.image q.image parts.0 parts.1.0, parts.1.1)
  where
    same : (i j : ℕ) (image other : List ℕ) → i ≡ j → image ≡ other → node i image ≡ node j other
    same i j image other one two = cc

abbrev slice : Bool → ℕ → List ℕ → Told
slice ends count text = record { ends = ends; count = count; text = text }

codes-apart : (b c : Bool) → phase_code b ≡ phase_code c → b ≡ c
codes-apart true true e = refl
codes-apart false false e = refl
codes-apart true false e = absurd cc
codes-apart false true e = absurd cc

told-apart : AreApart FitsTold told_bytes
told-apart s t more rest fit fits e =
    let first : phase_code s.ends ≡ phase_code t.ends = cc in
    let behind : (spelled w64 s.count ++ sized s.text) ++ more ≡ (spelled w64 t.count ++ sized t.text) ++ rest = cc in
    let parts = pair-apart s.count t.count s.text t.text more rest fit.count fits.count fit.text fits.text behind in
    (same s.ends t.ends s.count t.count s.text t.text (codes-apart s.ends t.ends first) parts.0 parts.1.0, parts.1.1)
  where
    same : (b c : Bool) (m n : ℕ) (text other : List ℕ) → b ≡ c → m ≡ n → text ≡ other → slice b m text ≡ slice c n other
    same b c m n text other one two three = cc

pub nodes_are_apart : NodesAreApart
nodes_are_apart = listed-apart FitsPlaced placed_bytes placed-apart

pub slices_are_apart : SlicesAreApart
slices_are_apart = listed-apart FitsTold told_bytes told-apart
