use Rattle.std.specs.Prelude.{◌≡◌, ℕ, ◌+◌, ◌<◌, ◌≤◌, ◌^◌, Bool, List, [], ◌∷◌, ◌++◌, length, drop, map, flat_map}
use Rattle.mal_base.specs.NumberedClause.{Line}
use Rattle.mal_base.specs.Lined.{Lined}
use Rattle.spec_proof.specs.Log.{IsOrderly}
use Rattle.mal_proof.specs.declared.chunk.Chunk.{Chunk}

-- lines that entered a log together, and whether they are marked
pub record Part : Type 0 where
  pub lines : List Line
  pub ends : Bool

-- the lines of a log, the parts in which they entered, for how many more lines and numbers there is room, and for how
-- many more chunks
pub record Logged : Type 0 where
  pub lines : List Line
  pub parts : List Part
  pub room : ℕ
  pub number_room : ℕ
  pub chunk_room : ℕ

-- the lines of chunks and of the last one
abbrev pub lines_in : List Chunk → Lined → List Line
lines_in full last = flat_map (λ chunk. chunk.lines.lines) full ++ last.lines

-- the parts of chunks and of the last one; the first is where a log begins, which has no lines
abbrev pub parts_in : List Chunk → Lined → Bool → List Part
parts_in full last ends = drop 1 (map (λ chunk. record { lines = chunk.lines.lines; ends = chunk.ends }) full ++ record { lines = last.lines; ends = ends } ∷ [])

-- where so many lines stand before the first of these chunks, each knows how many there are up to its end
abbrev pub AreCounted : ℕ → List Chunk → Type 0
AreCounted before [] = Unit {0}
AreCounted before (chunk ∷ chunks) = (chunk.end ≡ before + length chunk.lines.lines) × AreCounted chunk.end chunks

-- the lines are orderly and counted, those up to the end of each chunk too, and the last chunk has the room
pub record LogInvariant (full : List Chunk) (last : Lined) (count room number_room : ℕ) : Type 0 where
  pub orderly : IsOrderly (lines_in full last)
  pub counted : count ≡ length (lines_in full last)
  pub ends : AreCounted 0 full
  pub countable : count + room < 2 ^ 64
  pub line_room : room ≤ last.room
  pub lit_room : number_room ≤ last.lit_room
  pub hint_room : number_room ≤ last.hint_room

-- lines that end so, counted over all lines of a log, have the log's line of this place
pub record HasPlace (lines : List Line) (end n : ℕ) : Type 0 where
  pub counted : length lines ≤ end
  pub begun : end ≤ n + length lines
  pub before : n < end
