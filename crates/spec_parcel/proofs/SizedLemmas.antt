-- Numbers of 8 bytes, and bytes after their length, are apart.
use Rattle.std.proofs.Common.{◌≡◌, ℕ, ◌<◌, ◌^◌, List, ◌++◌, length, take, drop, refl, sym, ap, ◌∙◌, append_assoc}
use Rattle.std.specs.Int.{w64, from_be_bytes, to_be_bytes}
use Rattle.std.proofs.lemmas.List.{take_at, drop_at}
use Rattle.std.proofs.lemmas.Nat.{from_be_bytes-to_be_bytes_8}
use Rattle.mal_freeze.specs.Spelling.{spelled}
use Rattle.spec_parcel.specs.Apart.{AreApart, SizedAreApart}

-- the number that is spelled in front of bytes, and what is after it
pub spelled-front : (n : ℕ) (more : List ℕ) → n < 2 ^ 64 → (from_be_bytes w64 (take 8 (spelled w64 n ++ more)) ≡ n) × (drop 8 (spelled w64 n ++ more) ≡ more)
unfolding spelled
spelled-front n more lt =
    (ap (from_be_bytes w64) (take_at (to_be_bytes w64 n) more 8 refl) ∙ from_be_bytes-to_be_bytes_8 n lt, drop_at (to_be_bytes w64 n) more 8 refl)

-- numbers of 8 bytes are apart
pub spelled-apart : AreApart (λ (n : ℕ). n < 2 ^ 64) (spelled w64)
spelled-apart m n more rest small fits e =
    let front = spelled-front m more small in
    let behind = spelled-front n rest fits in
    (sym front.0 ∙ ap (λ (bytes : List ℕ). from_be_bytes w64 (take 8 bytes)) e ∙ behind.0, sym front.1 ∙ ap (λ (bytes : List ℕ). drop 8 bytes) e ∙ behind.1)

-- two fronts of one length are one
pub fronts-apart : (xs ys more rest : List ℕ) → length xs ≡ length ys → xs ++ more ≡ ys ++ rest → (xs ≡ ys) × (more ≡ rest)
fronts-apart xs ys more rest len e = (
  sym (take_at xs more (length xs) refl) ∙ ap (λ (bytes : List ℕ). take (length xs) bytes) e ∙ take_at ys rest (length xs) (sym len),
  sym (drop_at xs more (length xs) refl) ∙ ap (λ (bytes : List ℕ). drop (length xs) bytes) e ∙ drop_at ys rest (length xs) (sym len),
)

-- bytes after their length are apart
pub sized_are_apart : SizedAreApart
sized_are_apart xs ys more rest short fits e =
    let regrouped : spelled w64 (length xs) ++ (xs ++ more) ≡ spelled w64 (length ys) ++ (ys ++ rest) = sym (append_assoc (spelled w64 (length xs)) xs more) ∙ e ∙ append_assoc (spelled w64 (length ys)) ys rest in
    let front = spelled-apart (length xs) (length ys) (xs ++ more) (ys ++ rest) short fits regrouped in
    fronts-apart xs ys more rest front.0 front.1
