-- What the program's words ask for.
use Rattle.std.specs.Prelude.{◌≡◌, ℕ, ◌<◌, ◌≤◌, ◌^◌, List, [], ◌∷◌, bytes_eq, codes, decimal, if◌then◌else◌, Option, Some, None, option_and_then}
use Rattle.mal_base.specs.Limits.{limits}
use Rattle.clap.specs.Walk.{Row, Text, first_of}
use Rattle.mal_answer.specs.CommandLine.{refusals, subcommand}
use Rattle.mal_answer.specs.Forms.{Form, forms}
use Rattle.mal_answer.specs.declared.words.request.Request.{Request}
use Rattle.mal_answer.specs.declared.words.request.Request.TheVariants.{Run, Check, Replay, Generate, RunGenerated, Json, Cluster, Max, Core, Serve}

-- the value of an option is a number in decimal digits, without a sign and without a leading zero
abbrev pub IsNumber : ℕ → ℕ → ℕ → Option Text → Type 0
IsNumber least most n None = ⊥
IsNumber least most n (Some word) = (least ≤ n) × (n ≤ most) × (word ≡ decimal n)

-- a subcommand with these options asks for this: workers are 1 to 64, a seed is below 2^31, jobs are 1 to 256, halls
-- 2 to 8, slices of a round 1 to 1,000, those of a question 1 to 4,096
abbrev pub Asks : Text → List Row → Request → Type 0
Asks name rows (Run workers) = (name ≡ codes "run") × IsNumber 1 64 workers (first_of (codes "workers") rows)
Asks name rows Check = name ≡ codes "check"
Asks name rows Replay = name ≡ codes "replay"
Asks name rows (Generate seed jobs) =
    (name ≡ codes "gen") × (first_of (codes "workers") rows ≡ None) × IsNumber 0 2147483647 seed (first_of (codes "seed") rows) × IsNumber 1 256 jobs (first_of (codes "jobs") rows)
Asks name rows (RunGenerated seed jobs workers) =
    (name ≡ codes "gen") × IsNumber 1 64 workers (first_of (codes "workers") rows) × IsNumber 0 2147483647 seed (first_of (codes "seed") rows) × IsNumber 1 256 jobs (first_of (codes "jobs") rows)
Asks name rows Json = name ≡ codes "json"
Asks name rows (Cluster halls workers every) =
    (name ≡ codes "cluster") × IsNumber 2 8 halls (first_of (codes "halls") rows) × IsNumber 1 64 workers (first_of (codes "workers") rows) × IsNumber 1 1000 every (first_of (codes "every") rows)
Asks name rows (Max slices) = (name ≡ codes "max") × IsNumber 1 limits.slices slices (first_of (codes "slices") rows)
Asks name rows (Core slices) = (name ≡ codes "core") × IsNumber 1 limits.slices slices (first_of (codes "slices") rows)
Asks name rows (Serve workers) = (name ≡ codes "serve") × IsNumber 1 64 workers (first_of (codes "workers") rows)

-- a request is asked for by the words of this command alone
abbrev pub IsAskedBy : Form → Request → Type 0
IsAskedBy f r = (name : Text) (rows : List Row) → Asks name rows r → (name ≡ f.name) × (f.asks rows ≡ Some r)

-- the request that it asks for, by the form of this name
abbrev pub asked_by : List Form → Text → List Row → Option Request
asked_by [] name rows = None
asked_by (f ∷ fs) name rows = if bytes_eq name f.name then f.asks rows else asked_by fs name rows

abbrev pub asked : Text → List Row → Option Request
asked name rows = asked_by forms name rows

-- the request of the subcommand that was found, if one was
abbrev pub asked_in : Option (Text × List Row) → Option Request
asked_in found = option_and_then (λ f. asked f.0 f.1) found

-- the words, the first of which is the program's name, ask for this: clap takes them, and their subcommand asks for it
pub record Means (words : List Text) (r : Request) : Type 0 where
  pub name : Text
  pub rows : List Row
  pub taken : refusals words ≡ []
  pub named : subcommand words ≡ Some (name, rows)
  pub asks : Asks name rows r

-- the words ask for nothing
abbrev pub MeansNothing : List Text → Type 0
MeansNothing words = (r : Request) → Means words r → ⊥

-- the numbers of a request are in their ranges
abbrev pub IsRequest : Request → Type 0
IsRequest (Run workers) = (1 ≤ workers) × (workers ≤ 64)
IsRequest Check = Unit {0}
IsRequest Replay = Unit {0}
IsRequest (Generate seed jobs) = (seed < 2 ^ 31) × (1 ≤ jobs) × (jobs ≤ 256)
IsRequest (RunGenerated seed jobs workers) = (seed < 2 ^ 31) × (1 ≤ jobs) × (jobs ≤ 256) × (1 ≤ workers) × (workers ≤ 64)
IsRequest Json = Unit {0}
IsRequest (Cluster halls workers every) = (2 ≤ halls) × (halls ≤ 8) × (1 ≤ workers) × (workers ≤ 64) × (1 ≤ every) × (every ≤ 1000)
IsRequest (Max slices) = (1 ≤ slices) × (slices ≤ limits.slices)
IsRequest (Core slices) = (1 ≤ slices) × (slices ≤ limits.slices)
IsRequest (Serve workers) = (1 ≤ workers) × (workers ≤ 64)
