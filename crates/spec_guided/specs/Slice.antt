use Rattle.std.specs.Prelude.{ℕ, zero, suc, ◌+◌, Bool, true, false, ◌||◌, nat_lt, List, [], ◌∷◌, Option, Some, None, is_some}
use Rattle.std.specs.Option.{option_map_or}
use Rattle.mal_base.specs.NumberedClause.{Line}
use Rattle.spec_search.specs.Slice.{numbers_of, most_numbers, used_after}
use Rattle.spec_guided.specs.State.{Guided}
use Rattle.spec_guided.specs.Step.{step, next_line}

-- a slice in which so many literals and hints were derived is over where a verdict stands, or where the next line would
-- bring them above the most
abbrev pub is_over : ℕ → Guided → Bool
is_over used s = is_some s.node.verdict || option_map_or (λ l. nat_lt (most_numbers s.node.variables) (used + numbers_of l)) (next_line s) false

-- the outcome of a slice: the guided node, and the lines that it derived, in order
pub record Sliced : Type 0 where
  pub guided : Guided
  pub lines : List Line

-- with a line derived before the others
abbrev pub after_line : Option Line → Sliced → Sliced
after_line None s = s
after_line (Some l) s = record { guided = s.guided; lines = l ∷ s.lines }

-- up to this many steps, until the slice is over
abbrev pub steps_unless : ℕ → Bool → ℕ → Guided → Sliced
steps_unless zero over used s = record { guided = s; lines = [] }
steps_unless (suc k) true used s = record { guided = s; lines = [] }
steps_unless (suc k) false used s = let line = next_line s in let u = used_after used line in let t = step s in after_line line (steps_unless k (is_over u t) u t)

-- up to this many steps, where so many literals and hints were derived before in the slice
abbrev pub steps_from : ℕ → ℕ → Guided → Sliced
steps_from k used s = steps_unless k (is_over used s) used s

-- up to this many steps of a new slice
abbrev pub steps : ℕ → Guided → Sliced
steps k s = steps_from k 0 s

-- how many steps a slice has at the most
abbrev pub slice_steps : ℕ
slice_steps = 65536

-- a slice: so many steps, or fewer where it is over before
unfoldable pub slice : Guided → Sliced
slice s = steps slice_steps s
