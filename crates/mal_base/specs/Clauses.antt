use Rattle.std.specs.Prelude.{ℕ, ◌+◌, ◌*◌, ◌/◌, ◌≤◌, Bool, true, List, [], ◌∷◌, nat_lt, ◌==◌, ◌&&◌, if◌then◌else◌, Option, Some, None, Contains}

-- the first literal after, if there is one, has a greater variable
abbrev pub is_below : ℕ → List ℕ → Bool
is_below l [] = true
is_below l (m ∷ ms) = nat_lt (l / 2) (m / 2)

-- the variables of the literals rise strictly
abbrev pub rises : List ℕ → Bool
rises [] = true
rises (l ∷ ls) = is_below l ls && rises ls

-- a greater literal stands after, or none
abbrev pub is_less : ℕ → List ℕ → Bool
is_less l [] = true
is_less l (m ∷ ms) = nat_lt l m

-- the codes of the literals rise strictly
abbrev pub climbs : List ℕ → Bool
climbs [] = true
climbs (l ∷ ls) = is_less l ls && climbs ls

-- the first variable of these literals that the literal before it has too, where one of this variable stands before
abbrev pub clash_after : ℕ → List ℕ → Option ℕ
clash_after var [] = None
clash_after var (l ∷ ls) = if l / 2 == var then Some var else clash_after (l / 2) ls

-- the first variable that two literals in a row have
abbrev pub clash : List ℕ → Option ℕ
clash [] = None
clash (l ∷ ls) = clash_after (l / 2) ls

-- some variable stands with both signs
abbrev pub IsTautology : List ℕ → Type 0
IsTautology lits = (var : ℕ) × Contains lits (2 * var) × Contains lits (2 * var + 1)

-- two lists have the same members
pub record HaveSame (xs ys : List ℕ) : Type 0 where
  pub there : (x : ℕ) → Contains xs x → Contains ys x
  pub back : (x : ℕ) → Contains ys x → Contains xs x

-- this is the least variable that stands with both signs
pub record IsLeastOpposite (lits : List ℕ) (var : ℕ) : Type 0 where
  pub plus : Contains lits (2 * var)
  pub minus : Contains lits (2 * var + 1)
  pub least : (other : ℕ) → Contains lits (2 * other) → Contains lits (2 * other + 1) → var ≤ other
