-- Reading an image from front to back, with the first fault that is met. A field is read to its value and the bytes
-- after it. `total` is the length of the whole text.
use Rattle.std.specs.Prelude.{◌≡◌, ℕ, zero, suc, ◌+◌, ◌-◌, ◌*◌, ◌^◌, Bool, true, ◌&&◌, ◌||◌, List, [], ◌∷◌, length, take, drop, Option, Some, None, Result, Ok, Err, nat_lt, ◌==◌, if◌then◌else◌}
use Rattle.std.specs.Int.{Width, w32, w64, byte_len, from_be_bytes}
use Rattle.mal_base.specs.Limits.{limits}
use Rattle.mal_base.specs.declared.profile.Profile.{Profile}
use Rattle.mal_base.specs.NumberedClause.{NumberedClause}
use Rattle.mal_base.specs.declared.trail_entry.TrailEntry.{TrailEntry}
use Rattle.mal_base.specs.declared.verdict.Verdict.{Verdict}
use Rattle.mal_base.specs.declared.verdict.Verdict.TheVariants.{Satisfiable, Unsatisfiable}
use Rattle.spec_node.specs.State.{Node}
use Rattle.mal_freeze.specs.declared.fault.ThawFault.{ThawFault}
use Rattle.mal_freeze.specs.declared.fault.ThawFault.TheVariants.{BadMagic, Truncated, BadField, NotCanonical, OutOfMemory}
use Rattle.mal_freeze.specs.declared.fields.Head.{Head}
use Rattle.mal_freeze.specs.declared.fields.Search.{Search}
use Rattle.mal_freeze.specs.declared.fields.Ended.{Ended}
use Rattle.mal_freeze.specs.declared.fields.Fields.{Fields}
use Rattle.mal_freeze.specs.Fields.{Listing}
use Rattle.mal_freeze.specs.Imaged.{is_image}
use Rattle.mal_freeze.specs.Forms.{form_of, profile_named}

infixl 10 ◌>>=◌
abbrev pub ◌>>=◌ : {A B : Type 0} → Result A ThawFault → (A → Result B ThawFault) → Result B ThawFault
(Ok x) >>= f = f x
(Err e) >>= f = Err e

-- what was answered is the fault that reading meets, unless memory ran out
abbrev pub Fails : {Y : Type 0} → ThawFault → Result Y ThawFault → Type 0
Fails BadMagic read = read ≡ Err BadMagic
Fails Truncated read = read ≡ Err Truncated
Fails (BadField place) read = read ≡ Err (BadField place)
Fails NotCanonical read = read ≡ Err NotCanonical
Fails OutOfMemory read = Unit {0}

-- what was answered, in this view, is what reading gives, unless memory ran out
abbrev pub Gives : {X Y : Type 0} → (X → Y) → Result X ThawFault → Result Y ThawFault → Type 0
Gives view (Ok x) read = read ≡ Ok (view x)
Gives view (Err e) read = Fails e read

-- where a field begins: how many bytes of the text stand before it
abbrev pub place_of : ℕ → List ℕ → ℕ
place_of total bytes = total - length bytes

-- a number
unfoldable pub number_at : Width → List ℕ → Result (ℕ × List ℕ) ThawFault
number_at w bytes = if nat_lt (length bytes) (byte_len w) then Err Truncated else Ok (from_be_bytes w (take (byte_len w) bytes), drop (byte_len w) bytes)

-- a number from low to high
unfoldable pub ranged_at : ℕ → Width → ℕ → ℕ → List ℕ → Result (ℕ × List ℕ) ThawFault
ranged_at total w low high bytes = do
  n ← number_at w bytes
  if nat_lt n.0 low || nat_lt high n.0 then Err (BadField (place_of total bytes)) else Ok n

-- a byte up to high
unfoldable pub byte_at : ℕ → ℕ → List ℕ → Result (ℕ × List ℕ) ThawFault
byte_at total high [] = Err Truncated
byte_at total high (b ∷ rest) = if nat_lt high b then Err (BadField (place_of total (b ∷ rest))) else Ok (b, rest)

-- so many fields
unfoldable pub many_at : {X : Type 0} → (List ℕ → Result (X × List ℕ) ThawFault) → ℕ → List ℕ → Result (List X × List ℕ) ThawFault
many_at field zero bytes = Ok ([], bytes)
many_at field (suc n) bytes = do
  first ← field bytes
  others ← many_at field n first.1
  Ok (first.0 ∷ others.0, others.1)

-- a count up to most, and so many fields
unfoldable pub counted_at : {X : Type 0} → ℕ → ℕ → (List ℕ → Result (X × List ℕ) ThawFault) → List ℕ → Result (List X × List ℕ) ThawFault
counted_at total most field bytes = do
  count ← ranged_at total w32 0 most bytes
  many_at field count.0 count.1

-- the number of a clause, none for 0
abbrev pub number_in : ℕ → Option ℕ
number_in zero = None
number_in (suc n) = Some (suc n)

-- a literal of the variables 1 to the greatest
abbrev pub literal_at : ℕ → ℕ → List ℕ → Result (ℕ × List ℕ) ThawFault
literal_at total greatest bytes = ranged_at total w32 2 (2 * greatest + 1) bytes

-- a variable from 1 to the greatest
abbrev pub variable_at : ℕ → ℕ → List ℕ → Result (ℕ × List ℕ) ThawFault
variable_at total greatest bytes = ranged_at total w32 1 greatest bytes

-- a phase
unfoldable pub phase_at : ℕ → List ℕ → Result (Bool × List ℕ) ThawFault
phase_at total bytes = do
  code ← byte_at total 1 bytes
  Ok (code.0 == 1, code.1)

-- an entry of the trail
unfoldable pub entry_at : ℕ → ℕ → List ℕ → Result (TrailEntry × List ℕ) ThawFault
entry_at total greatest bytes = do
  lit ← literal_at total greatest bytes
  reason ← number_at w64 lit.1
  level ← number_at w32 reason.1
  Ok (record { lit = lit.0; reason = number_in reason.0; level = level.0 }, level.1)

-- a clause
unfoldable pub clause_at : ℕ → ℕ → List ℕ → Result (NumberedClause × List ℕ) ThawFault
clause_at total greatest bytes = do
  id ← number_at w64 bytes
  lits ← counted_at total greatest (literal_at total greatest) id.1
  Ok (record { id = id.0; lits = lits.0 }, lits.1)

-- a profile, if one is named, with the bytes after its name
abbrev pub named : Option Profile → List ℕ → Result (Profile × List ℕ) ThawFault
named None rest = Err BadMagic
named (Some profile) rest = Ok (profile, rest)

-- the profile that the first 8 bytes name
unfoldable pub profile_at : List ℕ → Result (Profile × List ℕ) ThawFault
profile_at bytes = do
  n ← number_at w64 bytes
  named (profile_named n.0) n.1

-- the index, the variables, the serial, and the conflicts since the last restart
unfoldable pub head_at : ℕ → List ℕ → Result (Head × List ℕ) ThawFault
head_at total bytes = do
  index ← ranged_at total w32 0 63 bytes
  variables ← ranged_at total w32 0 limits.variables index.1
  serial ← ranged_at total w64 0 (2 ^ 57 - 1) variables.1
  conflicts_since_restart ← number_at w32 serial.1
  Ok (record { index = index.0; variables = variables.0; serial = serial.0; conflicts_since_restart = conflicts_since_restart.0 }, conflicts_since_restart.1)

-- the conflicts since the last dropping, which stand where the profile counts them
unfoldable pub dropping_at : Profile → List ℕ → Result (ℕ × List ℕ) ThawFault
dropping_at profile bytes = if (form_of profile).counts then number_at w32 bytes else Ok (0, bytes)

-- the number of the restart, the conflicts since the last dropping, the batches handled, and the waiting conflict
unfoldable pub search_at : ℕ → Profile → List ℕ → Result (Search × List ℕ) ThawFault
search_at total profile bytes = do
  restart_number ← ranged_at total w32 1 (2 ^ 32 - 1) bytes
  conflicts_since_dropping ← dropping_at profile restart_number.1
  processed ← number_at w32 conflicts_since_dropping.1
  conflict ← number_at w64 processed.1
  Ok (record { restart_number = restart_number.0; conflicts_since_dropping = conflicts_since_dropping.0; processed = processed.0; conflict = number_in conflict.0 }, conflict.1)

-- the verdict and the goal
unfoldable pub ended_at : ℕ → List ℕ → Result (Ended × List ℕ) ThawFault
ended_at total bytes = do
  code ← byte_at total 2 bytes
  goal ← number_at w64 code.1
  Ok (record { code = code.0; goal = goal.0 }, goal.1)

-- the lists, of the variables 1 to the greatest
unfoldable pub lists_at : ℕ → ℕ → List ℕ → Result (Listing × List ℕ) ThawFault
lists_at total greatest bytes = do
  assumptions ← counted_at total greatest (literal_at total greatest) bytes
  order ← many_at (variable_at total greatest) greatest assumptions.1
  phases ← many_at (phase_at total) greatest order.1
  trail ← counted_at total greatest (entry_at total greatest) phases.1
  clauses ← counted_at total (2 ^ 32 - 1) (clause_at total greatest) trail.1
  Ok (record { assumptions = assumptions.0; order = order.0; phases = phases.0; trail = trail.0; clauses = clauses.0 }, clauses.1)

-- all fields, and how many bytes are left over
unfoldable pub fields_at : ℕ → List ℕ → Result Fields ThawFault
fields_at total bytes = do
  profile ← profile_at bytes
  head ← head_at total profile.1
  search ← search_at total profile.0 head.1
  ended ← ended_at total search.1
  lists ← lists_at total head.0.variables ended.1
  Ok (record { profile = profile.0; head = head.0; search = search.0; ended = ended.0; lists = lists.0; left = length lists.1 })

-- a goal stands with the code of unsatisfiable, and with no other
abbrev pub fits_goal : Ended → Bool
fits_goal e = if e.code == 2 then nat_lt 0 e.goal else e.goal == 0

-- the verdict of a code and a goal
abbrev pub verdict_in : Ended → Option Verdict
verdict_in e = if e.code == 2 then Some (Unsatisfiable e.goal) else if e.code == 1 then Some Satisfiable else None

-- the node of these fields
abbrev pub node_in : Fields → Node
node_in f = record {
  index = f.head.index;
  profile = f.profile;
  variables = f.head.variables;
  serial = f.head.serial;
  conflicts_since_restart = f.head.conflicts_since_restart;
  restart_number = f.search.restart_number;
  conflicts_since_dropping = f.search.conflicts_since_dropping;
  processed = f.search.processed;
  conflict = f.search.conflict;
  verdict = verdict_in f.ended;
  assumptions = f.lists.assumptions;
  order = f.lists.order;
  phases = f.lists.phases;
  trail = f.lists.trail;
  clauses = f.lists.clauses;
}

-- no bytes are left over, the goal goes with the verdict, and the node is in form
abbrev pub is_canonical : Fields → Bool
is_canonical f = (f.left == 0) && (fits_goal f.ended && is_image (node_in f))

-- a node is that of these fields, of which no bytes are left over, and whose goal goes with the verdict
pub record ArePartsOf (f : Fields) (n : Node) : Type 0 where
  pub node : n ≡ node_in f
  pub none_left : f.left ≡ 0
  pub goal : fits_goal f.ended ≡ true

-- the node of an image
unfoldable pub image_in : List ℕ → Result Node ThawFault
image_in bytes = do
  f ← fields_at (length bytes) bytes
  if is_canonical f then Ok (node_in f) else Err NotCanonical
