-- A job that does again what its own events tell, along the bytes of its slices and of its answers.
use Rattle.std.specs.Prelude.{◌≡◌, ℕ, ◌≤◌, Bool, true, false, List, ◌∷◌, ◌++◌, drop, length, flat_map}
use Rattle.std.specs.List.{AllByRecursion}
use Rattle.mal_base.specs.declared.verdict.Outcome.TheVariants.{Ran}
use Rattle.spec_job.specs.Counts.{is_opening}
use Rattle.spec_job.specs.KeyedJob.{Key}
use Rattle.spec_job.specs.Lawful.{IsLawful}
use Rattle.spec_job.specs.SoloMachine.{Own, Finished, SoloMachine, solo}
use Rattle.spec_job.specs.Viewed.{JobView, unstarted}
use Rattle.spec_parcel.specs.Packed.{answer_bytes, listed, node_bytes, slice_bytes}
use Rattle.mal_parcel.specs.Parcelled.{IsReadBack}

-- the node of a place stands at the front, with an image that is read to it
pub record IsNext (s : SoloMachine) (bytes : List ℕ) : Type 0 where
  pub index : ℕ
  pub more : List ℕ
  pub low : index ≤ 63
  pub again : IsReadBack s index
  pub front : bytes ≡ node_bytes s index ++ more

-- so many nodes stand at the front, each with such an image
pub record IsToWake (s : SoloMachine) (count : ℕ) (bytes : List ℕ) : Type 0 where
  pub indices : List ℕ
  pub more : List ℕ
  pub counted : length indices ≡ count
  pub low : AllByRecursion (λ i. i ≤ 63) indices
  pub again : AllByRecursion (IsReadBack s) indices
  pub front : bytes ≡ flat_map (node_bytes s) indices ++ more

-- the bytes of the slices that a machine has and another, which it runs on to, has besides, and of all answers
abbrev pub slices_left : SoloMachine → SoloMachine → List ℕ
slices_left whole s = flat_map slice_bytes (drop (length s.slices) whole.slices) ++ listed answer_bytes whole.answers

-- the bytes of the answers that the first machine gives after those of the second
abbrev pub answers_left : SoloMachine → SoloMachine → List ℕ
answers_left whole s = flat_map answer_bytes (drop (length s.answers) whole.answers)

-- a job of this number and this key has done the past of these own events, and no start of it has a number; the bytes
-- that are left are those of the slices and of the answers to come
pub record IsReplayed (number : ℕ) (key : Key) (own past : List Own) (j : JobView) (slices answers : List ℕ) : Type 0 where
  pub job : j ≡ unstarted number (record { key = key; state = solo past })
  pub slices_to_come : slices ≡ slices_left (solo own) (solo past)
  pub answers_to_come : answers ≡ answers_left (solo own) (solo past)

-- whether an own event runs a slice
abbrev pub is_ran : Own → Bool
is_ran (Finished i Ran) = true
is_ran event = false

-- the index of a start that ends is that of a node
abbrev pub IsLow : Own → Type 0
IsLow (Finished i outcome) = i ≤ 63
IsLow event = Unit {0}

-- a job stands before this one of lawful own events, which is not their opening
pub record IsBefore (event : Own) (j : JobView) (slices answers : List ℕ) : Type 0 where
  pub number : ℕ
  pub key : Key
  pub past : List Own
  pub later : List Own
  pub other : is_opening event ≡ false
  pub lawful : IsLawful (past ++ event ∷ later)
  pub replayed : IsReplayed number key (past ++ event ∷ later) past j slices answers
