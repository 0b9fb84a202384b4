use Rattle.std.proofs.Common.{◌≡◌, ℕ, zero, suc, ◌+◌, ◌<◌, ◌≤◌, Bool, true, false, List, [], ◌∷◌, length, set, replicate, refl, sym, ap, ◌∙◌, arith}
use Rattle.std.specs.Prelude.{All, ◌==◌}
use Rattle.std.proofs.lemmas.List.{map-set, length-map}
use Rattle.std.proofs.lemmas.List.Elements.{All-head, All-tail}
use Rattle.std.proofs.lemmas.Bool.{ne_eqb, eq-eqb}
use Rattle.mal_learn.specs.Stamps.{flags_at, AreStamped}

-- a stamp above all clears
pub none-set : (stamp now : ℕ) (stamps : List ℕ) → now < stamp → All (λ s. s ≤ now) stamps → flags_at stamp stamps ≡ replicate (length stamps) false
none-set stamp now [] l h = refl
none-set stamp now (s ∷ ss) l h =
    let low : s ≤ now = All-head (λ x. x ≤ now) s ss h in
    let other : (s == stamp) ≡ false = ne_eqb s stamp (λ q. absurd (omega arith)) in
    rw (other, none-set stamp now ss l (All-tail (λ x. x ≤ now) s ss h)) refl

pub wiped : (n : ℕ) (stamps : List ℕ) → stamps ≡ replicate n 0 → flags_at 1 stamps ≡ replicate n false
wiped n stamps q = rw q (zeros n)
  where
    zeros : (n : ℕ) → flags_at 1 (replicate n 0) ≡ replicate n false
    zeros zero = refl
    zeros (suc n) = ap (λ (xs : List Bool). false ∷ xs) (zeros n)

pub set-flag : (stamp place : ℕ) (stamps : List ℕ) → flags_at stamp (set stamps place stamp) ≡ set (flags_at stamp stamps) place true
set-flag stamp place stamps = map-set (λ s. s == stamp) stamps place stamp ∙ ap (λ (b : Bool). set (flags_at stamp stamps) place b) (eq-eqb stamp stamp refl)

pub unset-flag : (stamp place : ℕ) (stamps : List ℕ) → 1 ≤ stamp → flags_at stamp (set stamps place 0) ≡ set (flags_at stamp stamps) place false
unset-flag stamp place stamps l = map-set (λ s. s == stamp) stamps place 0 ∙ ap (λ (b : Bool). set (flags_at stamp stamps) place b) (ne_eqb 0 stamp (λ q. absurd (omega arith)))

pub cleared : (stamp : ℕ) (stamps : List ℕ) → AreStamped stamp stamps → flags_at (stamp + 1) stamps ≡ replicate (length (flags_at stamp stamps)) false
cleared stamp stamps h = none-set (stamp + 1) stamp stamps (omega arith) h.below ∙ ap (λ (n : ℕ). replicate n false) (sym (length-map stamps (λ s. s == stamp)))
