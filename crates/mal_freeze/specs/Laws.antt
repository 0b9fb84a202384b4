use Rattle.std.specs.Prelude.{◌≡◌, ◌≢◌, ℕ, ◌+◌, true, ◌<◌, ◌≤◌, ◌^◌, List, ◌∷◌, ◌++◌, length, get_or, replicate, codes, Ok, Err}
use Rattle.mal_base.specs.declared.profile.Profile.TheVariants.{Plain, Lean}
use Rattle.spec_node.specs.State.{Node, fresh_with, has_profile}
use Rattle.spec_node.specs.Sound.{IsSound}
use Rattle.mal_freeze.specs.declared.fault.ThawFault.{ThawFault}
use Rattle.mal_freeze.specs.declared.fault.ThawFault.TheVariants.{BadMagic, Truncated, BadField, NotCanonical, OutOfMemory}
use Rattle.mal_freeze.specs.Imaged.{IsFormed, IsImage}
use Rattle.mal_freeze.specs.Reading.{image_in}
use Rattle.mal_freeze.specs.Spelling.{image_bytes}
use Rattle.mal_freeze.specs.Widths.{Fits}

-- a sound node whose serial is in its range is in form
abbrev pub SoundIsFormed : Type 0
SoundIsFormed = (n : Node) → IsSound n → n.serial < 2 ^ 57 → IsFormed n

-- so it is in the form of an image, where it counts conflicts for droppings as its profile does
abbrev pub SoundHasImage : Type 0
SoundHasImage = (n : Node) → IsSound n → n.serial < 2 ^ 57 → has_profile n ≡ true → IsImage n

-- what is read of bytes was spelled so: the bytes are those of the node's image
abbrev pub ReadIsSpelled : Type 0
ReadIsSpelled = (bytes : List ℕ) (n : Node) → ((i : ℕ) → get_or bytes i 0 < 256) → image_in bytes ≡ Ok n → bytes ≡ image_bytes n

-- what is spelled of an image is read again, where its numbers fit their fields
abbrev pub SpelledIsRead : Type 0
SpelledIsRead = (n : Node) → IsImage n → Fits n → image_in (image_bytes n) ≡ Ok n

-- bytes end with the faulty field, which begins at the place of the fault and has 8 bytes at most
abbrev pub EndsWithField : ThawFault → List ℕ → Type 0
EndsWithField BadMagic front = length front ≡ 8
EndsWithField Truncated front = ⊥
EndsWithField (BadField place) front = (place < length front) × (length front ≤ place + 8)
EndsWithField NotCanonical front = ⊥
EndsWithField OutOfMemory front = ⊥

-- bytes begin with those up to the end of the faulty field, and all that begin so have this fault
pub record HasFaultyFront (bytes : List ℕ) (fault : ThawFault) : Type 0 where
  pub front : List ℕ
  pub behind : List ℕ
  pub parts : bytes ≡ front ++ behind
  pub ends : EndsWithField fault front
  pub first : (others : List ℕ) → image_in (front ++ others) ≡ Err fault

-- nothing after the faulty field counts
abbrev pub FaultIsFirst : Type 0
FaultIsFirst = (bytes : List ℕ) (fault : ThawFault) → image_in bytes ≡ Err fault → fault ≢ Truncated → fault ≢ NotCanonical → HasFaultyFront bytes fault

-- the 65 bytes of the node of index 0 and profile 1 at its first start, and the 69 of that of profile 2: all fields are
-- 0 but for the number of the restart
pub record FreshBytes : Type 0 where
  pub first : image_bytes (fresh_with 0 Plain) ≡ codes "MALNODE1" ++ (replicate 20 0 ++ (0 ∷ 0 ∷ 0 ∷ 1 ∷ replicate 33 0))
  pub second : image_bytes (fresh_with 0 Lean) ≡ codes "MALNODE2" ++ (replicate 20 0 ++ (0 ∷ 0 ∷ 0 ∷ 1 ∷ replicate 37 0))
