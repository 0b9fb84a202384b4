-- Exports, found in one pass over the log: the number of a line tells which place's node derived it.
use Rattle.std.specs.Prelude.{◌≡◌, ℕ, ◌+◌, ◌≤◌, ◌%◌, Bool, true, false, ◌&&◌, nat_le, List, [], ◌∷◌, ◌++◌, drop, slice_get, Some, if◌then◌else◌}
use Rattle.std.specs.Option.{option_map_or}
use Rattle.mal_base.specs.NumberedClause.{NumberedClause, Line}
use Rattle.spec_exchange.specs.Exchange.{broadcast}
use Rattle.spec_job.specs.SoloMachine.{NodeSlot, is_short, takes_part, exports_from}

-- whether the place of an index takes part, and the line that stands so far in the log came after its mark
abbrev pub awaits : ℕ → List NodeSlot → ℕ → ℕ → Bool
awaits volume places i n = option_map_or (λ p. takes_part volume i p && nat_le p.mark n) (slice_get places i) false

-- whether a line that stands there is exported
abbrev pub is_taken : ℕ → List NodeSlot → ℕ → Line → Bool
is_taken volume places n l = awaits volume places (l.id % 64) n && is_short l

-- the clauses of those of these lines that are, in their order; the first line stands so far in the log
abbrev pub taken_from : ℕ → List NodeSlot → ℕ → List Line → List NumberedClause
taken_from volume places n [] = []
taken_from volume places n (l ∷ ls) = (if is_taken volume places n l then record { id = l.id; lits = l.lits } ∷ [] else []) ++ taken_from volume places (n + 1) ls

-- they make the same broadcast as the exports, place by place
abbrev pub OnePassFindsAll : Type 0
OnePassFindsAll = (volume : ℕ) (log : List Line) (places : List NodeSlot) → broadcast (taken_from volume places 0 log) ≡ broadcast (exports_from volume log 0 places)

-- before all marks of the places that take part there are none
abbrev pub NoneBeforeMarks : Type 0
NoneBeforeMarks =
    (volume first : ℕ) (log : List Line) (places : List NodeSlot)
    → ((i : ℕ) (p : NodeSlot) → slice_get places i ≡ Some p → takes_part volume i p ≡ true → first ≤ p.mark)
    → taken_from volume places 0 log ≡ taken_from volume places first (drop first log)
