-- A field that is read was spelled so, and what is spelled is read again.
use Rattle.std.proofs.Common.{◌≡◌, ℕ, zero, suc, ◌+◌, ◌^◌, ◌<◌, ◌≤◌, Bool, true, false, ◌||◌, cond, ltb, nat_lt, List, [], ◌∷◌, ◌++◌, length, get_or, take, drop, Result, Ok, Err, refl, sym, ap, subst, ◌∙◌, append_assoc, arith, inl, inr}
use Rattle.std.specs.List.{flat_map, AllByRecursion}
use Rattle.std.specs.Int.{Width, w32, w64, byte_len, from_be_bytes, to_be_bytes}
use Rattle.std.proofs.lemmas.Bool.{cases_lt, ltb-false, le-ltb}
use Rattle.std.proofs.lemmas.Bool.Decides.{nat_tests}
use Rattle.std.proofs.lemmas.List.{take_at, drop_at, take-append-drop, length-append, length-take, get_or-drop, get_or-take, get_or_past}
use Rattle.std.proofs.lemmas.Nat.{be_bytes_4, be_bytes_8, from_be_bytes-to_be_bytes_4, from_be_bytes-to_be_bytes_8}
use Rattle.mal_freeze.specs.declared.fault.ThawFault.{ThawFault}
use Rattle.mal_freeze.specs.declared.fault.ThawFault.TheVariants.{Truncated, BadField}
use Rattle.mal_freeze.specs.Spelling.{spelled, counted}
use Rattle.mal_freeze.specs.Reading.{◌>>=◌, place_of, number_at, ranged_at, byte_at, many_at, counted_at}

-- each is a byte
abbrev pub IsBytes : List ℕ → Type 0
IsBytes bytes = (i : ℕ) → get_or bytes i 0 < 256

bytes-drop : (n : ℕ) (bytes : List ℕ) → IsBytes bytes → IsBytes (drop n bytes)
bytes-drop n bytes h i = rw get_or-drop (h (n + i))

bytes-take : (n : ℕ) (bytes : List ℕ) → IsBytes bytes → IsBytes (take n bytes)
bytes-take n bytes h i =
    elim (cases_lt i n) [
      | inl lt ↦ rw (get_or-take n bytes i 0 lt) (h i)
      | inr le ↦ rw (get_or_past (take n bytes) i 0 (omega (arith, length-take n bytes))) (omega arith)
    ]

-- a step that did not fail gave a value, from which the rest went on
pub step_ok : {A B : Type 0} (r : Result A ThawFault) (f : A → Result B ThawFault) (y : B) → (r >>= f) ≡ Ok y → (x : A) × (r ≡ Ok x) × (f x ≡ Ok y)
step_ok (Ok x) f y e = (x, refl, e)
step_ok (Err d) f y e = absurd cc

-- a test that lets a value through
pub let_through : {A : Type 0} (b : Bool) (d : ThawFault) (x y : A) → cond b (Err d) (Ok x) ≡ Ok y → (b ≡ false) × (x ≡ y)
let_through true d x y e = absurd cc
let_through false d x y e = (refl, cc)

pub let_when : {A : Type 0} (b : Bool) (d : ThawFault) (x y : A) → cond b (Ok x) (Err d) ≡ Ok y → (b ≡ true) × (x ≡ y)
let_when true d x y e = (refl, cc)
let_when false d x y e = absurd cc

abbrev pub good : {A : Type 0} → A → Result A ThawFault
good x = Ok x

pub ok_same : {A : Type 0} (x y : A) → good x ≡ good y → x ≡ y
ok_same x y e = cc

-- bytes begin with a text, and bytes are left after it
pub record Begins (bytes text left : List ℕ) : Type 0 where
  pub parts : bytes ≡ text ++ left
  pub are_bytes : IsBytes left

pub begins-more : (a x b y c : List ℕ) → Begins a x b → Begins b y c → Begins a (x ++ y) c
begins-more a x b y c p q = record { parts = p.parts ∙ ap (λ (t : List ℕ). x ++ t) q.parts ∙ sym (append_assoc x y c); are_bytes = q.are_bytes }

-- numbers of so many bytes are those below a limit
pub record IsWidth (w : Width) (limit : ℕ) : Type 0 where
  pub len : (n : ℕ) → length (to_be_bytes w n) ≡ byte_len w
  pub back : (bytes : List ℕ) → length bytes ≡ byte_len w → IsBytes bytes → to_be_bytes w (from_be_bytes w bytes) ≡ bytes
  pub again : (n : ℕ) → n < limit → from_be_bytes w (to_be_bytes w n) ≡ n

pub four : IsWidth w32 (2 ^ 32)
four = record {
  len = λ n. refl;
  back = λ bytes len are. be_bytes_4 bytes _ len are refl;
  again = λ n lt. from_be_bytes-to_be_bytes_4 n lt;
}

pub eight : IsWidth w64 (2 ^ 64)
eight = record {
  len = λ n. refl;
  back = λ bytes len are. be_bytes_8 bytes _ len are refl;
  again = λ n lt. from_be_bytes-to_be_bytes_8 n lt;
}

pub number_begins : (w : Width) (limit : ℕ) → IsWidth w limit → (bytes : List ℕ) (x : ℕ × List ℕ) → IsBytes bytes → number_at w bytes ≡ Ok x → Begins bytes (spelled w x.0) x.1
unfolding number_at spelled
number_begins w limit wide bytes x are e =
    let g = let_through (ltb (length bytes) (byte_len w)) Truncated (from_be_bytes w (take (byte_len w) bytes), drop (byte_len w) bytes) x e in
    let long : byte_len w ≤ length bytes = ltb-false _ _ g.0 in
    let front : to_be_bytes w (from_be_bytes w (take (byte_len w) bytes)) ≡ take (byte_len w) bytes = wide.back (take (byte_len w) bytes) (omega (arith, length-take (byte_len w) bytes)) (bytes-take (byte_len w) bytes are) in
    let so : Begins bytes (to_be_bytes w (from_be_bytes w (take (byte_len w) bytes))) (drop (byte_len w) bytes) = record { parts = rw front (sym (take-append-drop (byte_len w) bytes)); are_bytes = bytes-drop (byte_len w) bytes are } in
    subst (λ (y : ℕ × List ℕ). Begins bytes (to_be_bytes w y.0) y.1) g.1 so

pub number_again : (w : Width) (limit : ℕ) → IsWidth w limit → (n : ℕ) (rest : List ℕ) → n < limit → number_at w (spelled w n ++ rest) ≡ Ok (n, rest)
unfolding number_at spelled
number_again w limit wide n rest lt =
    let len = wide.len n in
    let long : ltb (length (to_be_bytes w n ++ rest)) (byte_len w) ≡ false = le-ltb _ _ (omega (arith, length-append (to_be_bytes w n) rest)) in
    rw (long, take_at (to_be_bytes w n) rest (byte_len w) len, drop_at (to_be_bytes w n) rest (byte_len w) len, wide.again n lt) refl

pub ranged_begins : (w : Width) (limit : ℕ) → IsWidth w limit → (total low high : ℕ) (bytes : List ℕ) (x : ℕ × List ℕ) → IsBytes bytes → ranged_at total w low high bytes ≡ Ok x → Begins bytes (spelled w x.0) x.1
unfolding ranged_at
ranged_begins w limit wide total low high bytes x are e =
    let a = step_ok (number_at w bytes) (λ n. cond (nat_lt n.0 low || nat_lt high n.0) (Err (BadField (place_of total bytes))) (Ok n)) x e in
    let g = let_through (nat_lt a.0.0 low || nat_lt high a.0.0) (BadField (place_of total bytes)) a.0 x a.2 in
    subst (λ (y : ℕ × List ℕ). Begins bytes (spelled w y.0) y.1) g.1 (number_begins w limit wide bytes a.0 are a.1)

in_range : (n low high : ℕ) → low ≤ n → n ≤ high → (nat_lt n low || nat_lt high n) ≡ false
in_range n low high = grind (arith, nat_tests)

pub ranged_again : (w : Width) (limit : ℕ) → IsWidth w limit → (total low high n : ℕ) (rest : List ℕ) → n < limit → low ≤ n → n ≤ high → ranged_at total w low high (spelled w n ++ rest) ≡ Ok (n, rest)
unfolding ranged_at
ranged_again w limit wide total low high n rest lt from to =
    rw (number_again w limit wide n rest lt, in_range n low high from to) refl

bytes-rest : (b : ℕ) (bytes : List ℕ) → IsBytes (b ∷ bytes) → IsBytes bytes
bytes-rest b bytes h i = h (suc i)

not_above : (b high : ℕ) → nat_lt high b ≡ false → b ≤ high
not_above b high = grind (arith, nat_tests)

upto : (b high : ℕ) → b ≤ high → nat_lt high b ≡ false
upto b high = grind (arith, nat_tests)

pub byte_begins : (total high : ℕ) (bytes : List ℕ) (x : ℕ × List ℕ) → IsBytes bytes → byte_at total high bytes ≡ Ok x → Begins bytes (x.0 ∷ []) x.1 × (x.0 ≤ high)
unfolding byte_at
byte_begins total high [] x are e = absurd cc
byte_begins total high (b ∷ rest) x are e =
    let g = let_through (nat_lt high b) (BadField (place_of total (b ∷ rest))) (b, rest) x e in
    subst (λ (y : ℕ × List ℕ). Begins (b ∷ rest) (y.0 ∷ []) y.1 × (y.0 ≤ high)) g.1 (record { parts = refl; are_bytes = bytes-rest b rest are }, not_above b high g.0)

pub byte_again : (total high b : ℕ) (rest : List ℕ) → b ≤ high → byte_at total high (b ∷ rest) ≡ Ok (b, rest)
unfolding byte_at
byte_again total high b rest le = rw (upto b high le) refl

-- what is read of one field holds of many
pub many_begins : {X : Type 0} (field : List ℕ → Result (X × List ℕ) ThawFault) (bytes_of : X → List ℕ) → ((bytes : List ℕ) (x : X × List ℕ) → IsBytes bytes → field bytes ≡ Ok x → Begins bytes (bytes_of x.0) x.1)
    → (n : ℕ) (bytes : List ℕ) (x : List X × List ℕ) → IsBytes bytes → many_at field n bytes ≡ Ok x → Begins bytes (flat_map bytes_of x.0) x.1 × (length x.0 ≡ n)
unfolding many_at
many_begins {X} field bytes_of one zero bytes x are e =
    subst (λ (y : List X × List ℕ). Begins bytes (flat_map bytes_of y.0) y.1 × (length y.0 ≡ 0)) (ok_same ([], bytes) x e) (record { parts = refl; are_bytes = are }, refl)
many_begins {X} field bytes_of one (suc n) bytes x are e =
    let a = step_ok (field bytes) (λ first. many_at field n first.1 >>= λ others. Ok (first.0 ∷ others.0, others.1)) x e in
    let b = step_ok (many_at field n a.0.1) (λ others. Ok (a.0.0 ∷ others.0, others.1)) x a.2 in
    let first = one bytes a.0 are a.1 in
    let second = many_begins field bytes_of one n a.0.1 b.0 first.are_bytes b.1 in
    let both = begins-more bytes (bytes_of a.0.0) a.0.1 (flat_map bytes_of b.0.0) b.0.1 first second.0 in
    let made : List X × List ℕ = (a.0.0 ∷ b.0.0, b.0.1) in
    subst (λ (y : List X × List ℕ). Begins bytes (flat_map bytes_of y.0) y.1 × (length y.0 ≡ suc n)) (ok_same made x b.2) (both, ap suc second.1)

pub many_again : {X : Type 0} (field : List ℕ → Result (X × List ℕ) ThawFault) (bytes_of : X → List ℕ) (P : X → Type 0) → ((x : X) (rest : List ℕ) → P x → field (bytes_of x ++ rest) ≡ Ok (x, rest))
    → (xs : List X) (rest : List ℕ) → AllByRecursion P xs → many_at field (length xs) (flat_map bytes_of xs ++ rest) ≡ Ok (xs, rest)
unfolding many_at
many_again field bytes_of P one [] rest all = refl
many_again field bytes_of P one (x ∷ xs) rest all =
    ap (many_at field (suc (length xs))) (append_assoc (bytes_of x) (flat_map bytes_of xs) rest) ∙ rw (one x (flat_map bytes_of xs ++ rest) all.0, many_again field bytes_of P one xs rest all.1) refl

pub counted_begins : {X : Type 0} (total most : ℕ) (field : List ℕ → Result (X × List ℕ) ThawFault) (bytes_of : X → List ℕ) → ((bytes : List ℕ) (x : X × List ℕ) → IsBytes bytes → field bytes ≡ Ok x → Begins bytes (bytes_of x.0) x.1)
    → (bytes : List ℕ) (x : List X × List ℕ) → IsBytes bytes → counted_at total most field bytes ≡ Ok x → Begins bytes (counted bytes_of x.0) x.1
unfolding counted_at
counted_begins {X} total most field bytes_of one bytes x are e =
    let a = step_ok (ranged_at total w32 0 most bytes) (λ count. many_at field count.0 count.1) x e in
    let first = ranged_begins w32 (2 ^ 32) four total 0 most bytes a.0 are a.1 in
    let second = many_begins field bytes_of one a.0.0 a.0.1 x first.are_bytes a.2 in
    let both = begins-more bytes (spelled w32 a.0.0) a.0.1 (flat_map bytes_of x.0) x.1 first second.0 in
    subst (λ (k : ℕ). Begins bytes (spelled w32 k ++ flat_map bytes_of x.0) x.1) (sym second.1) both

pub counted_again : {X : Type 0} (total most : ℕ) (field : List ℕ → Result (X × List ℕ) ThawFault) (bytes_of : X → List ℕ) (P : X → Type 0) → ((x : X) (rest : List ℕ) → P x → field (bytes_of x ++ rest) ≡ Ok (x, rest))
    → (xs : List X) (rest : List ℕ) → AllByRecursion P xs → length xs ≤ most → length xs < 2 ^ 32 → counted_at total most field (counted bytes_of xs ++ rest) ≡ Ok (xs, rest)
unfolding counted_at
counted_again {X} total most field bytes_of P one xs rest all few lt =
    ap (counted_at total most field) (append_assoc (spelled w32 (length xs)) (flat_map bytes_of xs) rest)
    ∙ rw (ranged_again w32 (2 ^ 32) four total 0 most (length xs) (flat_map bytes_of xs ++ rest) lt (omega arith) few, many_again field bytes_of P one xs rest all) refl
