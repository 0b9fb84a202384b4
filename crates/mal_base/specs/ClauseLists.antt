use Rattle.std.specs.Prelude.{◌≡◌, ℕ, ◌+◌, ◌-◌, ◌*◌, ◌/◌, ◌%◌, ◌≤◌, ◌==◌, if◌then◌else◌, true, List, [], ◌∷◌, take, drop, length, flat_map, Bool, Option, Some, None}
use Rattle.std.specs.List.{list_all}
use Rattle.mal_base.specs.Clauses.{rises}

-- the literals of a clause; a tautology has none
abbrev pub lits_of : Option (List ℕ) → List ℕ
lits_of None = []
lits_of (Some lits) = lits

-- the literals of clauses side by side
abbrev pub laid : List (Option (List ℕ)) → List ℕ
laid clauses = flat_map lits_of clauses

-- the mark of a clause whose literals begin at a place: twice the place where they end, and one more of a tautology
abbrev pub mark_of : ℕ → Option (List ℕ) → ℕ
mark_of start None = 2 * start + 1
mark_of start (Some lits) = 2 * (start + length lits)

-- the marks of clauses whose literals begin at a place
abbrev pub marks_of : ℕ → List (Option (List ℕ)) → List ℕ
marks_of start [] = []
marks_of start (c ∷ cs) = mark_of start c ∷ marks_of (start + length (lits_of c)) cs

-- the clauses of these marks, whose literals are these from a place on
abbrev pub read : ℕ → List ℕ → List ℕ → List (Option (List ℕ))
read start lits [] = []
read start lits (m ∷ ms) = (if m % 2 == 1 then None else Some (take (m / 2 - start) lits)) ∷ read (m / 2) (drop (m / 2 - start) lits) ms

-- the variables of a clause rise strictly; a tautology has none
abbrev pub is_rising : Option (List ℕ) → Bool
is_rising None = true
is_rising (Some lits) = rises lits

-- these are the literals and the marks of these clauses, each of which rises, with fewer than 2^31 literals
pub record IsLaid (lits marks : List ℕ) (clauses : List (Option (List ℕ))) : Type 0 where
  pub side_by_side : lits ≡ laid clauses
  pub marked : marks ≡ marks_of 0 clauses
  pub rising : list_all is_rising clauses ≡ true
  pub few : length lits ≤ 2147483647
