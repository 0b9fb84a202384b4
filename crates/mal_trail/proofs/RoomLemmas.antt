use Rattle.std.proofs.Common.{◌≡◌, ℕ, zero, suc, ◌-◌, ◌/◌, ◌<◌, None, List, [], ◌∷◌, length, drop, get_or, refl, arith}
use Rattle.std.specs.Prelude.{All}
use Rattle.std.proofs.lemmas.List.Elements.{All-drop, All-from_get_or}
use Rattle.mal_base.specs.Literals.{negated}
use Rattle.mal_base.specs.declared.trail_entry.TrailEntry.{TrailEntry}
use Rattle.mal_trail.specs.Trailed.{Fits}
use Rattle.mal_trail.proofs.TrailLemmas.{var-at}
use Rattle.mal_trail.proofs.PlaceLemmas.{has-place}

-- the negation of the literal of each entry has a place
pub codes-within : (most count : ℕ) (entries : List TrailEntry) → Fits most entries → count / 2 - 1 ≡ most → (k : ℕ) (d : TrailEntry) → k < length entries → negated (get_or entries k d).lit < count
codes-within most count entries f wide k d l =
    let v = var-at most entries k (get_or entries k d) f l (same entries k d (get_or entries k d) l) in
    has-place most count (get_or entries k d).lit wide v.0 v.1
  where
    same : (es : List TrailEntry) (i : ℕ) (a b : TrailEntry) → i < length es → get_or es i a ≡ get_or es i b
    same [] i a b h = absurd (omega arith)
    same (e ∷ es) zero a b h = refl
    same (e ∷ es) (suc i) a b h = same es i a b (omega arith)

pub codes-behind : (most count n : ℕ) (entries : List TrailEntry) → Fits most entries → count / 2 - 1 ≡ most → All (λ e. negated e.lit < count) (drop n entries)
codes-behind most count n entries f wide =
    All-drop (λ e. negated e.lit < count) n entries (All-from_get_or (λ e. negated e.lit < count) entries none (λ k l. codes-within most count entries f wide k none l))
  where
    none : TrailEntry
    none = record { lit = 2; reason = None; level = 0 }
