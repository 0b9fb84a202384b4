-- The order in which variables are decided: by activity, and those of one activity in an order that differs from node to
-- node.
use Rattle.std.specs.Prelude.{ℕ, ◌-◌, ◌*◌, ◌%◌, ◌==◌, ◌||◌, ◌&&◌, nat_lt, Bool, List, get_or}

-- what tells variables of one activity apart at the node of this index
abbrev pub tie : ℕ → ℕ → ℕ
tie index v = index * v % 64

-- whether variable v of activity a comes before w of activity b
abbrev pub is_before : ℕ → ℕ → ℕ → ℕ → ℕ → Bool
is_before index a v b w = nat_lt b a || (a == b && (nat_lt (tie index v) (tie index w) || (tie index v == tie index w && nat_lt v w)))

-- the activity of a variable in the list of those of the variables from 1 on
abbrev pub activity_of : List ℕ → ℕ → ℕ
activity_of activities v = get_or activities (v - 1) 0

-- whether v comes before w by such a list
abbrev pub precedes : ℕ → List ℕ → ℕ → ℕ → Bool
precedes index activities v w = is_before index (activity_of activities v) v (activity_of activities w) w
