-- What a call moved, and that a device failed in it.
use Rattle.std.specs.Prelude.{◌≡◌, ◌+◌, ◌-◌, ◌^◌, ◌<◌, ◌≤◌, ◌↔◌, ℕ, List, ◌++◌, length, min, Contains, Result, Ok, Err}
use Rattle.std.specs.Io.KnownBytes.{Consumes, Appends}
use Rattle.std.specs.declared.option.Option.{Option}

-- the count of faults rose, or stands at the end of its type
abbrev pub Rose : ℕ → ℕ → Type 0
Rose before now = min (before + 1) (2 ^ 64 - 1) ≤ now

-- the bytes taken from a source, at most one above max, and one above it exactly where that was too long
pub record HasTaken (before now : Option (List ℕ)) (max : ℕ) (too_long : Type 0) (taken : List ℕ) : Type 0 where
  pub consumed : Consumes before now taken
  pub bounded : length taken ≤ max + 1
  pub exact : too_long ↔ (length taken ≡ max + 1)

-- a sink gained a prefix of the text, and nothing else
pub record GotPrefix (old new : Option (List ℕ)) (text prefix : List ℕ) : Type 0 where
  pub gained : Appends old new prefix
  pub split : (rest : List ℕ) × (text ≡ prefix ++ rest)

-- the call after so many calls is one of those that are told to fail
abbrev pub FailsNext : List ℕ → ℕ → Type 0
FailsNext failing calls = Contains failing (min (calls + 1) (2 ^ 64 - 1))

-- no room is left for a piece that is not empty
abbrev pub IsFull : ℕ → List ℕ → Type 0
IsFull room piece = (room ≡ 0) × (0 < length piece)

-- a fault is counted once, up to the end of the count's type
abbrev pub Counts : ℕ → ℕ → Type 0
Counts before now = now ≡ min (before + 1) (2 ^ 64 - 1)

-- a source answers as its reader did: as many bytes and no fault, or a fault exactly where the reader failed
abbrev pub TakesAs : {E F : Type 0} → Result ℕ E → Result ℕ F → ℕ → ℕ → Type 0
TakesAs (Ok n) (Ok m) before now = (m ≡ n) × (now ≡ before)
TakesAs (Ok n) (Err f) before now = ⊥
TakesAs (Err e) (Ok m) before now = ⊥
TakesAs (Err e) (Err f) before now = Counts before now

-- a sink answers as its writer did with a piece: as many bytes and no fault, or a fault exactly where the writer failed
-- or took nothing of a piece that is not empty
abbrev pub PutsAs : {E F : Type 0} → Result ℕ E → Result ℕ F → List ℕ → ℕ → ℕ → Type 0
PutsAs (Ok n) (Ok m) piece before now = (m ≡ n) × (0 < length piece → 0 < n) × (now ≡ before)
PutsAs (Ok n) (Err f) piece before now = (n ≡ 0) × (0 < length piece) × Counts before now
PutsAs (Err e) (Ok m) piece before now = ⊥
PutsAs (Err e) (Err f) piece before now = Counts before now
