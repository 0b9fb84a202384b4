use Rattle.std.specs.Prelude.{◌≡◌, ℕ, ◌+◌, ◌-◌, ◌/◌, ◌≤◌, ◌<◌, ◌⊎◌, true, eqb, List, [], ◌∷◌, length, slice_index_or, slice_set}
use Rattle.std.specs.List.{list_any, IsDistinct}
use Rattle.mal_base.specs.Limits.{greatest_variable}
use Rattle.mal_base.specs.Literals.{negated}
use Rattle.mal_base.specs.declared.trail_entry.TrailEntry.{TrailEntry}
use Rattle.spec_node.specs.Value.{vars_of}

-- a trail, how many of its batches count as handled, and the greatest variable that it has room for
pub record Trailed : Type 0 where
  pub entries : List TrailEntry
  pub processed : ℕ
  pub room : ℕ

-- a trail is as long as it was or longer, and no more of its batches count as handled
pub record Grows (before after : Trailed) : Type 0 where
  pub longer : length before.entries ≤ length after.entries
  pub processed : after.processed ≡ before.processed
  pub room : after.room ≡ before.room

-- levels never fall, and each is the level before it (at the front this one) or the next
abbrev pub LevelsRise : ℕ → List TrailEntry → Type 0
LevelsRise level [] = Unit {0}
LevelsRise level (e ∷ es) = (level ≤ e.level) × (e.level ≤ level + 1) × LevelsRise e.level es

-- no variable stands twice, each is one that there is room for, and levels rise
pub record Fits (most : ℕ) (entries : List TrailEntry) : Type 0 where
  pub small : most ≤ greatest_variable
  pub distinct : IsDistinct eqb (vars_of entries)
  pub within : (v : ℕ) → list_any (eqb v) (vars_of entries) ≡ true → (1 ≤ v) × (v ≤ most)
  pub levels : LevelsRise 0 entries

-- a place that no entry has
abbrev pub nowhere : ℕ
nowhere = 4294967295

-- the place of the entry that makes a literal false, by the literals' codes
abbrev pub false_place : List ℕ → ℕ → ℕ
false_place places l = slice_index_or places l nowhere

-- places where no entry makes the literals false that these entries make false
abbrev pub cleared : List TrailEntry → List ℕ → List ℕ
cleared [] places = places
cleared (e ∷ es) places = cleared es (slice_set places (negated e.lit) nowhere)

-- each entry stands at the false place of its literal's negation, and a literal whose false place is somewhere has its
-- negation there
pub record Stand (places : List ℕ) (entries : List TrailEntry) : Type 0 where
  pub placed : (k : ℕ) (d : TrailEntry) → k < length entries → false_place places (negated (slice_index_or entries k d).lit) ≡ k
  pub there : (l : ℕ) (d : TrailEntry) → (false_place places l ≡ nowhere) ⊎ ((false_place places l < length entries) × ((slice_index_or entries (false_place places l) d).lit ≡ negated l))

-- a trail fits its room, which memory is held for, each entry stands at its place, and no more batches count as handled
-- than the trail has prefixes
pub record IsTrail (most processed : ℕ) (entries : List TrailEntry) (capacity : ℕ) (places : List ℕ) : Type 0 where
  pub fits : Fits most entries
  pub held : most ≤ capacity
  pub wide : length places / 2 - 1 ≡ most
  pub stand : Stand places entries
  pub handled : processed ≤ length entries + 1
