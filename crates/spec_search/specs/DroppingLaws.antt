use Rattle.std.specs.Prelude.{◌≡◌, ℕ, ◌/◌, ◌<◌, ◌≤◌, true, false, List, [], ◌∷◌, length, take, map, filter, replicate, All, Contains, None, Some}
use Rattle.mal_base.specs.declared.profile.Profile.{Profile}
use Rattle.mal_base.specs.declared.profile.Profile.TheVariants.{Plain, Lean}
use Rattle.mal_base.specs.declared.profile.Reduction.TheVariants.{Never, After}
use Rattle.mal_base.specs.Profiles.{policy}
use Rattle.mal_base.specs.NumberedClause.{NumberedClause}
use Rattle.mal_revision.specs.Posted.{Posted}
use Rattle.spec_node.specs.State.{Node, fresh_with}
use Rattle.spec_node.specs.Load.{loaded, counted}
use Rattle.spec_node.specs.Sound.{IsSound}
use Rattle.spec_node.specs.Laws.{originals}
use Rattle.spec_learn.specs.Dropping.{is_reason, may_go, longer_half, to_drop}
use Rattle.spec_search.specs.Step.{Drops, Restarts, case_of, step}
use Rattle.spec_search.specs.Slice.{Sliced, steps}
use Rattle.spec_search.specs.Dropping.{is_dropping_due, dropped, given_up}

-- a clause by its number and literals
abbrev pub clause : ℕ → List ℕ → NumberedClause
clause id lits = record { id = id; lits = lits }

-- derived clauses of 2, 3, 3, 5 and 7 literals
abbrev pub five_clauses : List NumberedClause
five_clauses = clause 4294967296 (2 ∷ 4 ∷ []) ∷ clause 4294967360 (2 ∷ 4 ∷ 6 ∷ []) ∷ clause 4294967424 (2 ∷ 4 ∷ 8 ∷ []) ∷ clause 4294967488 (2 ∷ 4 ∷ 6 ∷ 8 ∷ 10 ∷ []) ∷ clause 4294967552 (2 ∷ 4 ∷ 6 ∷ 8 ∷ 10 ∷ 12 ∷ 14 ∷ []) ∷ []

-- the clauses 1 -2, 1 2 3 4 and 2 3 -4
abbrev pub covered : Posted
covered = record { variables = 4; clauses = Some (2 ∷ 5 ∷ []) ∷ Some (2 ∷ 4 ∷ 6 ∷ 8 ∷ []) ∷ Some (4 ∷ 6 ∷ 9 ∷ []) ∷ []; assumptions = [] }

-- node 0 of this profile after so many steps
abbrev pub first_steps : ℕ → Profile → Sliced
first_steps k profile = steps k (loaded covered 1 (fresh_with 0 profile))

-- a node of this profile on whose empty trail all is handled and a restart is due, with so many conflicts learned since
-- the last dropping and those five clauses
abbrev pub idle : Profile → ℕ → Node
idle profile count = record (fresh_with 0 profile) { variables = 7; serial = 5; processed = 1; conflicts_since_restart = 64; conflicts_since_dropping = count; order = counted 1 7; phases = replicate 7 false; clauses = five_clauses }

-- worked examples of what goes: of clauses of 2, 3, 3, 5 and 7 literals those of 5 and 7; of two of equal length the
-- later one; an original and a reason stay, how long they may be
pub record HasDrops : Type 0 where
  pub five_and_seven : to_drop [] five_clauses ≡ 4294967552 ∷ 4294967488 ∷ []
  pub later : to_drop [] (clause 4294967296 (2 ∷ 4 ∷ 6 ∷ []) ∷ clause 4294967360 (2 ∷ 4 ∷ 8 ∷ []) ∷ []) ≡ 4294967360 ∷ []
  pub spared : to_drop (record { lit = 14; reason = Some 4294967552; level = 0 } ∷ []) (clause 7 (2 ∷ 4 ∷ 6 ∷ 8 ∷ 10 ∷ 12 ∷ []) ∷ five_clauses) ≡ 4294967488 ∷ []

-- worked examples of steps under both profiles: the first clause that node 0 learns, the longer and the shorter one,
-- and its trail after the shorter one; and a dropping, which comes before a restart that is due as well, is due after
-- 2,000 conflicts, and under profile 1 never
pub record HasProfiles : Type 0 where
  pub waits : (first_steps 6 Lean).node.conflict ≡ Some 3
  pub longer : (first_steps 7 Plain).lines ≡ record { id = 4294967296; lits = 2 ∷ 4 ∷ 6 ∷ []; hints = 2 ∷ 3 ∷ [] } ∷ []
  pub shorter : (first_steps 7 Lean).lines ≡ record { id = 4294967296; lits = 2 ∷ 6 ∷ []; hints = 1 ∷ 2 ∷ 3 ∷ [] } ∷ []
  pub learns : map (λ e. e.lit) (first_steps 7 Lean).node.trail ≡ 3 ∷ 5 ∷ 6 ∷ []
  pub none_counted : (first_steps 7 Plain).node.conflicts_since_dropping ≡ 0
  pub one_counted : (first_steps 7 Lean).node.conflicts_since_dropping ≡ 1
  pub due : case_of (idle Lean 2000) ≡ Drops
  pub not_yet : case_of (idle Lean 1999) ≡ Restarts
  pub never : case_of (idle Plain 1000000) ≡ Restarts
  pub drops : step (idle Lean 2000) ≡ record (idle Lean 0) { clauses = take 3 five_clauses }
  pub then_restarts : case_of (step (idle Lean 2000)) ≡ Restarts

-- dropping keeps a node sound
abbrev pub DropKeepsSound : Type 0
DropKeepsSound = (n : Node) → IsSound n → n.conflict ≡ None → length n.trail < n.processed → IsSound (dropped n)

-- so does giving up one clause, which leaves the originals, and of what was held holds all others
pub record GivesUp (id : ℕ) (n : Node) : Type 0 where
  pub sound : IsSound n → n.conflict ≡ None → IsSound (given_up id n)
  pub originals : originals (given_up id n).clauses ≡ originals n.clauses
  pub was : All (Contains n.clauses) (given_up id n).clauses

abbrev pub GivingUpKeepsSound : Type 0
GivingUpKeepsSound = (id : ℕ) (n : Node) → GivesUp id n

-- what dropping leaves: originals and reasons stay, and what is held was held; half of what may go goes, and the count
-- begins anew
pub record DropHolds (n : Node) : Type 0 where
  pub originals : originals (dropped n).clauses ≡ originals n.clauses
  pub was : All (Contains n.clauses) (dropped n).clauses
  pub reasons : All (λ c. is_reason (dropped n).trail c ≡ true → Contains (dropped n).clauses c) n.clauses
  pub count : (dropped n).conflicts_since_dropping ≡ 0
  pub half : length (longer_half (filter (may_go (dropped n).trail) n.clauses)) ≡ length (filter (may_go (dropped n).trail) n.clauses) / 2

abbrev pub DropsHold : Type 0
DropsHold = (n : Node) → DropHolds n

-- when a step drops clauses: where no conflict waits, no batch is left and as many conflicts were learned since the last
-- dropping as the profile asks for; and under no profile that reduces nothing
pub record DropsWhenDue : Type 0 where
  pub due : (n : Node) (most : ℕ) → n.conflict ≡ None → length n.trail < n.processed → (policy n.profile).reduction ≡ After most → most ≤ n.conflicts_since_dropping → case_of n ≡ Drops
  pub never : (n : Node) → (policy n.profile).reduction ≡ Never → is_dropping_due n ≡ false
