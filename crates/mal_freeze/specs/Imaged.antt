use Rattle.std.specs.Prelude.{◌≡◌, ℕ, ◌+◌, ◌≤◌, ◌<◌, ◌^◌, Bool, true, not, ◌&&◌, ◌==◌, eqb, nat_lt, nat_le, List, [], ◌∷◌, ◌++◌, length}
use Rattle.std.specs.List.{list_all, list_any}
use Rattle.mal_base.specs.Limits.{limits}
use Rattle.mal_base.specs.Clauses.{rises}
use Rattle.mal_base.specs.Formulas.{is_within}
use Rattle.mal_base.specs.NumberedClause.{NumberedClause}
use Rattle.mal_base.specs.Literals.{var_of}
use Rattle.mal_base.specs.declared.trail_entry.TrailEntry.{TrailEntry}
use Rattle.spec_node.specs.State.{Node, has_profile}
use Rattle.spec_node.specs.Value.{has_value, level_of}

-- a number from 1 to the greatest that is not among those before
abbrev pub is_new : ℕ → List ℕ → ℕ → Bool
is_new greatest before v = (nat_le 1 v && nat_le v greatest) && not (list_any (eqb v) before)

-- numbers from 1 to the greatest, none of them twice nor among those before
abbrev pub are_new : ℕ → List ℕ → List ℕ → Bool
are_new greatest before [] = true
are_new greatest before (v ∷ vs) = is_new greatest before v && are_new greatest (before ++ v ∷ []) vs

-- each of the variables 1 to the greatest, once
abbrev pub is_order : ℕ → List ℕ → Bool
is_order greatest order = (length order == greatest) && are_new greatest [] order

-- an entry may stand after those before: its variable is from 1 to the greatest and has no value yet, and its level is
-- the one reached (0 at the front) or the next
abbrev pub may_follow : ℕ → List TrailEntry → TrailEntry → Bool
may_follow greatest before e = (nat_le 1 (var_of e.lit) && nat_le (var_of e.lit) greatest) && (not (has_value before (var_of e.lit)) && (nat_le (level_of before) e.level && nat_le e.level (level_of before + 1)))

-- each entry may stand after those before it
abbrev pub all_follow : ℕ → List TrailEntry → List TrailEntry → Bool
all_follow greatest before [] = true
all_follow greatest before (e ∷ es) = may_follow greatest before e && all_follow greatest (before ++ e ∷ []) es

-- literals of the variables 1 to the greatest, by strictly rising variable
abbrev pub are_literals : ℕ → List ℕ → Bool
are_literals greatest lits = rises lits && is_within greatest lits

-- the literals of each clause are
abbrev pub are_clauses : ℕ → List NumberedClause → Bool
are_clauses greatest clauses = list_all (λ c. are_literals greatest c.lits) clauses

-- the numbers of the clauses rise strictly, from above this one on
abbrev pub numbers_rise : ℕ → List NumberedClause → Bool
numbers_rise last [] = true
numbers_rise last (c ∷ cs) = nat_lt last c.id && numbers_rise c.id cs

-- the ranges of an image's numbers, and its lengths
pub record HasRanges (n : Node) : Type 0 where
  pub index : n.index ≤ 63
  pub variables : n.variables ≤ limits.variables
  pub serial : n.serial < 2 ^ 57
  pub restart_number : 1 ≤ n.restart_number
  -- no more batches count as handled than the trail has prefixes
  pub processed : n.processed ≤ length n.trail + 1
  -- one phase a variable
  pub phases : length n.phases ≡ n.variables

-- the lists of a node are in order, and its numbers in their ranges
pub record IsFormed (n : Node) : Type 0 where
  pub ranges : HasRanges n
  pub assumptions : are_literals n.variables n.assumptions ≡ true
  -- a permutation of the variables
  pub order : is_order n.variables n.order ≡ true
  -- trail variables differ, and levels rise by one at most
  pub trail : all_follow n.variables [] n.trail ≡ true
  pub clauses : are_clauses n.variables n.clauses ≡ true
  -- from at least 1
  pub numbers : numbers_rise 0 n.clauses ≡ true

-- an image is in form, and conflicts are counted for droppings only where the profile reduces
pub record IsImage (n : Node) : Type 0 where
  pub form : IsFormed n
  pub profile : has_profile n ≡ true

-- the same ranges and lengths, as a test
abbrev pub has_ranges : Node → Bool
has_ranges n = (nat_le n.index 63 && (nat_le n.variables limits.variables && (nat_lt n.serial (2 ^ 57) && nat_le 1 n.restart_number))) && (nat_le n.processed (length n.trail + 1) && (length n.phases == n.variables))

-- the lists are in order
abbrev pub has_order : Node → Bool
has_order n = (are_literals n.variables n.assumptions && is_order n.variables n.order) && (all_follow n.variables [] n.trail && (are_clauses n.variables n.clauses && numbers_rise 0 n.clauses))

-- an image is in form, as a test
abbrev pub is_image : Node → Bool
is_image n = has_profile n && (has_ranges n && has_order n)
