-- The bytes of an image, in the form of the node's profile. Numbers have their greatest byte first.
use Rattle.std.specs.Prelude.{ℕ, Bool, true, false, if◌then◌else◌, List, [], ◌∷◌, ◌++◌, length, flat_map, Option, Some, None}
use Rattle.std.specs.Int.{Width, w32, w64, to_be_bytes}
use Rattle.mal_base.specs.declared.profile.Profile.{Profile}
use Rattle.mal_base.specs.NumberedClause.{NumberedClause}
use Rattle.mal_base.specs.declared.trail_entry.TrailEntry.{TrailEntry}
use Rattle.mal_base.specs.declared.verdict.Verdict.{Verdict}
use Rattle.mal_base.specs.declared.verdict.Verdict.TheVariants.{Satisfiable, Unsatisfiable}
use Rattle.spec_node.specs.State.{Node}
use Rattle.mal_freeze.specs.Forms.{form_of}

-- a number in 4 or 8 bytes
unfoldable pub spelled : Width → ℕ → List ℕ
spelled w n = to_be_bytes w n

-- the number of a clause, 0 for none
abbrev pub number_or_0 : Option ℕ → ℕ
number_or_0 None = 0
number_or_0 (Some id) = id

-- a verdict: 0 for none, 1 for satisfiable, 2 for unsatisfiable
abbrev pub code_of : Option Verdict → ℕ
code_of None = 0
code_of (Some Satisfiable) = 1
code_of (Some (Unsatisfiable goal)) = 2

-- the goal of an unsatisfiable one, 0 for every other
abbrev pub goal_of : Option Verdict → ℕ
goal_of None = 0
goal_of (Some Satisfiable) = 0
goal_of (Some (Unsatisfiable goal)) = goal

-- 1 for true, 0 for false
abbrev pub phase_code : Bool → ℕ
phase_code true = 1
phase_code false = 0

abbrev pub phase_bytes : Bool → List ℕ
phase_bytes phase = phase_code phase ∷ []

-- how many there are, and then each of them
abbrev pub counted : {X : Type 0} → (X → List ℕ) → List X → List ℕ
counted bytes_of xs = spelled w32 (length xs) ++ flat_map bytes_of xs

-- an entry of the trail: its literal, the clause that forced it, its level
abbrev pub entry_bytes : TrailEntry → List ℕ
entry_bytes e = spelled w32 e.lit ++ (spelled w64 (number_or_0 e.reason) ++ spelled w32 e.level)

-- a clause: its number and its literals
abbrev pub clause_bytes : NumberedClause → List ℕ
clause_bytes c = spelled w64 c.id ++ counted (spelled w32) c.lits

-- the index, the variables, the serial, and the conflicts since the last restart
abbrev pub head_bytes : Node → List ℕ
head_bytes n = spelled w32 n.index ++ (spelled w32 n.variables ++ (spelled w64 n.serial ++ spelled w32 n.conflicts_since_restart))

-- the conflicts since the last dropping, where the profile counts them
abbrev pub dropping_bytes : Profile → ℕ → List ℕ
dropping_bytes profile count = if (form_of profile).counts then spelled w32 count else []

-- the number of the restart, the conflicts since the last dropping, the batches handled, and the waiting conflict
abbrev pub search_bytes : Node → List ℕ
search_bytes n = spelled w32 n.restart_number ++ (dropping_bytes n.profile n.conflicts_since_dropping ++ (spelled w32 n.processed ++ spelled w64 (number_or_0 n.conflict)))

-- the verdict and its goal
abbrev pub verdict_bytes : Option Verdict → List ℕ
verdict_bytes v = code_of v ∷ spelled w64 (goal_of v)

-- the assumptions, the order and a phase for each variable, the trail, and the clauses
abbrev pub list_bytes : Node → List ℕ
list_bytes n = counted (spelled w32) n.assumptions ++ (flat_map (spelled w32) n.order ++ (flat_map phase_bytes n.phases ++ (counted entry_bytes n.trail ++ counted clause_bytes n.clauses)))

-- an image
abbrev pub image_bytes : Node → List ℕ
image_bytes n = spelled w64 (form_of n.profile).magic ++ (head_bytes n ++ (search_bytes n ++ (verdict_bytes n.verdict ++ list_bytes n)))
