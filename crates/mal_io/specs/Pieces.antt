-- Bytes on their way to a sink: what it got of them, and what waits.
use Rattle.std.specs.Prelude.{◌≡◌, ◌≤◌, ◌⊎◌, ℕ, List, [], ◌++◌, Bool, true, false, Option}
use Rattle.std.specs.Io.KnownBytes.{Appends}
use Rattle.mal_io.specs.Moves.{Rose}

-- bytes that wait to be handed to a sink, and whether it has failed
pub record Waiting : Type 0 where
  pub bytes : List ℕ
  pub failed : Bool

-- of the bytes that waited, with a text after them, a sink got a prefix, and the rest is left
abbrev pub Moves : Option (List ℕ) → Option (List ℕ) → List ℕ → List ℕ → List ℕ → Type 0
Moves got got_now waiting text rest = (sent : List ℕ) × Appends got got_now sent × (waiting ++ text ≡ sent ++ rest)

-- a text was put after the bytes that wait for a sink: where the sink has not failed, what is left waits; a sink that
-- has failed gets nothing more; and it fails only where its count of faults rises
pub record Puts {A : Type 0} (got : A → Option (List ℕ)) (faults : A → ℕ) (sink sink_now : A) (before now : Waiting) (text : List ℕ) : Type 0 where
  pub whole : now.failed ≡ false → (before.failed ≡ false) × Moves (got sink) (got sink_now) before.bytes text now.bytes
  pub prefix : (rest : List ℕ) × Moves (got sink) (got sink_now) before.bytes text rest
  pub still : before.failed ≡ true → Appends (got sink) (got sink_now) []
  pub later : faults sink ≤ faults sink_now
  pub cause : now.failed ≡ true → (before.failed ≡ true) ⊎ Rose (faults sink) (faults sink_now)
  pub counted : now.failed ≡ false → faults sink_now ≡ faults sink
