use Rattle.std.specs.Prelude.{ℕ, zero, suc, ◌+◌, ◌*◌, Bool, true, false, ◌||◌, nat_lt, List, [], ◌∷◌, length, Option, Some, None, is_some}
use Rattle.std.specs.Option.{option_map_or}
use Rattle.mal_base.specs.NumberedClause.{Line}
use Rattle.spec_node.specs.State.{Node}
use Rattle.spec_search.specs.Step.{step, next_line}

-- how many literals and hints a line has
abbrev pub numbers_of : Line → ℕ
numbers_of l = length l.lits + length l.hints

-- the literals and hints that the lines of a slice may have, beside those of one more line
abbrev pub slice_room : ℕ
slice_room = 65536

-- how many literals and hints the lines of a slice have at the most, for so many variables
abbrev pub most_numbers : ℕ → ℕ
most_numbers variables = slice_room + 2 * variables + 2

-- a slice in which so many literals and hints were derived is over where a verdict stands, or where the next line would
-- bring them above the most
abbrev pub is_over : ℕ → Node → Bool
is_over used n = is_some n.verdict || option_map_or (λ l. nat_lt (most_numbers n.variables) (used + numbers_of l)) (next_line n) false

-- the outcome of a slice: the node, and the lines that it derived, in order
pub record Sliced : Type 0 where
  pub node : Node
  pub lines : List Line

-- with a line derived before the others
abbrev pub after_line : Option Line → Sliced → Sliced
after_line None s = s
after_line (Some l) s = record { node = s.node; lines = l ∷ s.lines }

-- the literals and hints used after a step
abbrev pub used_after : ℕ → Option Line → ℕ
used_after used line = used + option_map_or numbers_of line 0

-- up to this many steps, until the slice is over
abbrev pub steps_unless : ℕ → Bool → ℕ → Node → Sliced
steps_unless zero over used n = record { node = n; lines = [] }
steps_unless (suc k) true used n = record { node = n; lines = [] }
steps_unless (suc k) false used n = let line = next_line n in let u = used_after used line in let m = step n in after_line line (steps_unless k (is_over u m) u m)

-- up to this many steps from a node, where so many literals and hints were derived before in the slice
abbrev pub steps_from : ℕ → ℕ → Node → Sliced
steps_from k used n = steps_unless k (is_over used n) used n

-- up to this many steps of a new slice
abbrev pub steps : ℕ → Node → Sliced
steps k n = steps_from k 0 n

-- a slice: 1,000 steps, or fewer where it is over before
unfoldable pub slice : Node → Sliced
slice n = steps 1000 n
