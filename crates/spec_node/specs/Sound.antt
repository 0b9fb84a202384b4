use Rattle.std.specs.Prelude.{◌≡◌, ℕ, ◌+◌, ◌-◌, ◌/◌, ◌≤◌, ◌<◌, ◌^◌, max, Bool, true, false, ◌||◌, ◌==◌, List, [], ◌∷◌, ◌++◌, length, take, All, Contains, find, count_by, Option, Some, None}
use Rattle.std.specs.List.{list_all, list_any}
use Rattle.std.specs.List.Sorted.{IsPermutation}
use Rattle.std.specs.Option.{option_map_or}
use Rattle.mal_base.specs.Limits.{limits}
use Rattle.mal_base.specs.Literals.{var_of}
use Rattle.mal_base.specs.Clauses.{rises}
use Rattle.mal_base.specs.declared.trail_entry.TrailEntry.{TrailEntry}
use Rattle.mal_base.specs.NumberedClause.{NumberedClause}
use Rattle.spec_node.specs.State.{Node}
use Rattle.spec_node.specs.Value.{is_true, is_false, has_value, level_of, left_literal}
use Rattle.spec_node.specs.Batch.{batch}
use Rattle.spec_node.specs.Load.{counted, is_derived}

-- each entry has a property that speaks of the entries before it
abbrev pub EachAfter : (List TrailEntry → TrailEntry → Type 0) → List TrailEntry → List TrailEntry → Type 0
EachAfter P before [] = Unit {0}
EachAfter P before (e ∷ es) = P before e × EachAfter P (before ++ e ∷ []) es

-- an entry's variable is one of the node's, and no entry before has it
pub record IsPlaced (variables : ℕ) (before : List TrailEntry) (e : TrailEntry) : Type 0 where
  pub low : 1 ≤ var_of e.lit
  pub high : var_of e.lit ≤ variables
  pub free : has_value before (var_of e.lit) ≡ false

-- the level of a new entry: a decision opens the next one, a forced literal has the one that is reached
abbrev pub own_level : List TrailEntry → Option ℕ → ℕ
own_level before None = level_of before + 1
own_level before (Some reason) = level_of before

-- an entry has the level that belongs to it. So level 0 has no decision, each level above has one, its first
-- entry, and levels never fall
abbrev pub IsLevelled : List TrailEntry → TrailEntry → Type 0
IsLevelled before e = e.level ≡ own_level before e.reason

-- the literal left of a clause under a prefix is true on the trail
abbrev pub left_is_true : List TrailEntry → List TrailEntry → NumberedClause → Bool
left_is_true prefix trail c = option_map_or (is_true trail) (left_literal prefix c.lits) false

-- each clause of a batch below this one has its left literal true on the trail
abbrev pub AreSettled : ℕ → List TrailEntry → List NumberedClause → Type 0
AreSettled below trail clauses = (q : ℕ) → q < below → list_all (left_is_true (take q trail) trail) (batch (take q trail) clauses) ≡ true

-- before a decision each clause of the batches up to there has its left literal true
abbrev pub IsClosed : List NumberedClause → List TrailEntry → TrailEntry → Type 0
IsClosed clauses before e = e.reason ≡ None → AreSettled (length before + 1) before clauses

-- a literal of the variables 1 to this one
pub record IsLiteralOf (variables lit : ℕ) : Type 0 where
  pub low : 1 ≤ var_of lit
  pub high : var_of lit ≤ variables

-- literals of the variables 1 to this one, by strictly rising variable
pub record AreLiteralsOf (variables : ℕ) (lits : List ℕ) : Type 0 where
  pub rising : rises lits ≡ true
  pub within : All (IsLiteralOf variables) lits

-- the search of a node is consistent: what a model needs
pub record IsConsistent (n : Node) : Type 0 where
  -- the decision order is a permutation of the variables
  pub order : IsPermutation (counted 1 n.variables) n.order
  -- the literals of a held clause are of the node's variables and rise by variable
  pub clauses : All (λ c. AreLiteralsOf n.variables c.lits) n.clauses
  -- the assumptions are of the node's variables and rise by variable
  pub assumptions : AreLiteralsOf n.variables n.assumptions
  -- trail variables differ and are the node's
  pub placed : EachAfter (IsPlaced n.variables) [] n.trail
  -- levels rise by one exactly at a decision
  pub levels : EachAfter IsLevelled [] n.trail
  -- before each decision the batches up to there are settled
  pub closed : EachAfter (IsClosed n.clauses) [] n.trail
  -- no more batches count as handled than the trail has prefixes
  pub handled : n.processed ≤ length n.trail + 1
  -- where no conflict waits, each handled batch is settled: each of its clauses has its left literal true (a true
  -- literal is what a model needs; that it is the left one makes the next decision closed)
  pub settled : n.conflict ≡ None → AreSettled n.processed n.trail n.clauses

-- clauses in rising order of their numbers, from this one on
abbrev pub NumbersRise : ℕ → List NumberedClause → Type 0
NumbersRise low [] = Unit {0}
NumbersRise low (c ∷ cs) = (low ≤ c.id) × NumbersRise (c.id + 1) cs

-- the serial in the number of a derived clause
abbrev pub serial_of : NumberedClause → ℕ
serial_of c = (c.id - 2 ^ 32) / 64

-- the sizes and numbers of a node
pub record IsRanged (n : Node) : Type 0 where
  pub index : n.index ≤ 63
  pub variables : n.variables ≤ limits.variables
  pub restart_number : 1 ≤ n.restart_number
  -- one phase a variable
  pub phases : length n.phases ≡ n.variables
  -- the numbers of the clauses held rise strictly, from at least 1
  pub numbers : NumbersRise 1 n.clauses
  -- the serial is above that of each derived clause held
  pub serial : All (λ c. is_derived c ≡ true → serial_of c < n.serial) n.clauses

-- the level of a variable on a trail: that of its entry, 0 where there is none
abbrev pub level_in : List TrailEntry → ℕ → ℕ
level_in trail v = option_map_or (λ e. e.level) (find (λ e. v == var_of e.lit) trail) 0

-- the greatest level of a clause's literals, 0 for none
abbrev pub greatest_level : List TrailEntry → List ℕ → ℕ
greatest_level trail [] = 0
greatest_level trail (l ∷ ls) = max (level_in trail (var_of l)) (greatest_level trail ls)

-- a clause forces an entry: the entry's literal stands in it, its others are false by earlier entries, and the
-- greatest of their levels is the entry's own (its own literal has no level before)
pub record IsReason (before : List TrailEntry) (e : TrailEntry) (c : NumberedClause) : Type 0 where
  pub own : list_any (λ l. l == e.lit) c.lits ≡ true
  pub others : list_all (λ l. (l == e.lit) || is_false before l) c.lits ≡ true
  pub level : greatest_level before c.lits ≡ e.level

-- the reason of a forced entry is a clause held that forces it
abbrev pub IsForced : List NumberedClause → List TrailEntry → TrailEntry → Type 0
IsForced clauses before e = (id : ℕ) → e.reason ≡ Some id → (c : NumberedClause) × Contains clauses c × (c.id ≡ id) × IsReason before e c

-- a decision is an assumption, unless all assumptions were true before it
abbrev pub IsChosen : List ℕ → List TrailEntry → TrailEntry → Type 0
IsChosen assumptions before e = e.reason ≡ None → (list_any (λ a. a == e.lit) assumptions || list_all (is_true before) assumptions) ≡ true

-- the batches of all prefixes up to a decision were handled before it
abbrev pub IsPassed : ℕ → List TrailEntry → TrailEntry → Type 0
IsPassed processed before e = e.reason ≡ None → length before < processed

-- how many of a clause's literals have the current level
abbrev pub current_count : List TrailEntry → List ℕ → ℕ
current_count trail lits = count_by (λ l. level_in trail (var_of l) == level_of trail) lits

-- a conflict is a clause that is false, with two literals or more of the current level where that is above 0
pub record IsConflict (trail : List TrailEntry) (c : NumberedClause) : Type 0 where
  pub false_lits : list_all (is_false trail) c.lits ≡ true
  pub current : 0 < level_of trail → 2 ≤ current_count trail c.lits

-- a waiting conflict is the number of such a clause
abbrev pub IsWaiting : List NumberedClause → List TrailEntry → ℕ → Type 0
IsWaiting clauses trail id = (c : NumberedClause) × Contains clauses c × (c.id ≡ id) × IsConflict trail c

-- a sound node: what holds of it from its first start on
pub record IsSound (n : Node) : Type 0 where
  -- the ranges of its numbers
  pub ranged : IsRanged n
  -- the order, the clauses and the assumptions; trail variables, levels and settled batches
  pub consistent : IsConsistent n
  -- each reason is a clause held that forces its literal
  pub reasons : EachAfter (IsForced n.clauses) [] n.trail
  -- decisions are assumptions unless all assumptions were true before them
  pub chosen : EachAfter (IsChosen n.assumptions) [] n.trail
  -- the batches up to each decision were handled
  pub passed : EachAfter (IsPassed n.processed) [] n.trail
  -- the entries handled have reached the current level; it is kept so that a batch finds a literal of that level in
  -- each reason and two in a conflict
  pub reached : level_of (take n.processed n.trail) ≡ level_of n.trail
  -- a waiting conflict is a false clause
  pub waiting : (id : ℕ) → n.conflict ≡ Some id → IsWaiting n.clauses n.trail id
