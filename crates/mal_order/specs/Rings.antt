use Rattle.std.specs.Prelude.{◌≡◌, ◌≢◌, ℕ, zero, suc, ◌+◌, ◌<◌, ◌≤◌, List, [], ◌∷◌, length, get_or}

-- a number at each place from 0 on, and for how many more places there is room
pub record Linked : Type 0 where
  pub numbers : List ℕ
  pub room : ℕ

-- a ring: how many places it has, the numbers in order after the place 0, and for how many more places there is room
pub record Ringed : Type 0 where
  pub places : ℕ
  pub list : List ℕ
  pub room : ℕ

-- the number at a place
abbrev pub link : List ℕ → ℕ → ℕ
link numbers k = get_or numbers k 0

-- so many numbers that follow a place along the links
abbrev pub walk : List ℕ → ℕ → ℕ → List ℕ
walk after k zero = []
walk after k (suc n) = link after k ∷ walk after (link after k) n

-- the links lead from one place over these numbers to another, and back
abbrev pub Leads : (after before : List ℕ) → ℕ → List ℕ → ℕ → Type 0
Leads after before a [] z = (link after a ≡ z) × (link before z ≡ a)
Leads after before a (v ∷ vs) z = (link after a ≡ v) × (link before v ≡ a) × Leads after before v vs z

-- a number does not stand in a list
abbrev pub IsApart : ℕ → List ℕ → Type 0
IsApart k [] = Unit {0}
IsApart k (v ∷ vs) = (v ≢ k) × IsApart k vs

-- no number stands twice
abbrev pub AreOnce : List ℕ → Type 0
AreOnce [] = Unit {0}
AreOnce (v ∷ vs) = IsApart v vs × AreOnce vs

-- each number is one of so many places, and not 0
abbrev pub ArePlaced : ℕ → List ℕ → Type 0
ArePlaced places [] = Unit {0}
ArePlaced places (v ∷ vs) = (1 ≤ v) × (v < places) × ArePlaced places vs

-- a list is the numbers 1 to its length, each once
pub record IsTurned (list : List ℕ) : Type 0 where
  pub once : AreOnce list
  pub placed : ArePlaced (length list + 1) list

-- the links lead from the place 0 over these numbers back to it, each number stands once and has a place, those that do
-- not stand there lead to 0, and for so many more places there is room
pub record IsRing (after before : Linked) (list : List ℕ) (spare : ℕ) : Type 0 where
  pub leads : Leads after.numbers before.numbers 0 list 0
  pub once : AreOnce list
  pub placed : ArePlaced (length after.numbers) list
  pub others : (k : ℕ) → k ≢ 0 → IsApart k list → link after.numbers k ≡ 0
  pub same : length before.numbers ≡ length after.numbers
  pub some : 1 ≤ length after.numbers
  pub room_after : spare ≤ after.room
  pub room_before : spare ≤ before.room
