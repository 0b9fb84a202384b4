-- What the solvers of one job tell each other: their clauses in one order, each once, as many as a buffer takes.
use Rattle.std.specs.Prelude.{ℕ, zero, suc, ◌-◌, ◌/◌, nat_le, List, [], ◌∷◌, ◌++◌, length, map, take, flat_map, slice_set, get_or, if◌then◌else◌}
use Rattle.std.specs.declared.cmp.Ordering.{Ordering}
use Rattle.std.specs.declared.cmp.Ordering.TheVariants.{Less, Equal, Greater}
use Rattle.std.specs.Ordering.{nat_cmp}
use Rattle.std.specs.Cmp.Lexicographic.{slice_cmp}
use Rattle.mal_base.specs.NumberedClause.{NumberedClause}

-- a list of literals with its length before it
abbrev pub sized : List ℕ → List ℕ
sized lits = length lits ∷ lits

-- the order of clauses: by length, and those of one length by the codes of their literals, the first difference counts
abbrev pub lits_cmp : List ℕ → List ℕ → Ordering
lits_cmp a b = slice_cmp nat_cmp (sized a) (sized b)

-- of two entries the one with the lesser number, the first where they are equal
abbrev pub lesser : NumberedClause → NumberedClause → NumberedClause
lesser e x = if nat_le e.id x.id then e else x

-- an entry in its place before, at or after the first of some entries; after it, the others have it in its place
abbrev pub put_by : Ordering → NumberedClause → NumberedClause → List NumberedClause → List NumberedClause → List NumberedClause
put_by Less e x xs others = e ∷ x ∷ xs
put_by Equal e x xs others = lesser e x ∷ xs
put_by Greater e x xs others = x ∷ others

-- an entry put in its place among sorted entries; of two with the same literals the one with the lesser number stays
abbrev pub put : NumberedClause → List NumberedClause → List NumberedClause
put e [] = e ∷ []
put e (x ∷ xs) = put_by (lits_cmp e.lits x.lits) e x xs (put e xs)

-- the union of entries: sorted, each list of literals once, with the least of its numbers
abbrev pub union : List NumberedClause → List NumberedClause
union [] = []
union (e ∷ es) = put e (union es)

-- two sorted lists merged: the lesser first entry first, of two with the same literals the one with the lesser number
abbrev pub merge_by : Ordering → NumberedClause → NumberedClause → List NumberedClause → List NumberedClause → List NumberedClause → List NumberedClause
merge_by Less x y below same above = x ∷ below
merge_by Equal x y below same above = lesser x y ∷ same
merge_by Greater x y below same above = y ∷ above

abbrev pub merged_from : NumberedClause → (List NumberedClause → List NumberedClause) → List NumberedClause → List NumberedClause
merged_from x rest [] = x ∷ rest []
merged_from x rest (y ∷ ys) = merge_by (lits_cmp x.lits y.lits) x y (rest (y ∷ ys)) (rest ys) (merged_from x rest ys)

abbrev pub merged : List NumberedClause → List NumberedClause → List NumberedClause
merged [] ys = ys
merged (x ∷ xs) ys = merged_from x (merged xs) ys

-- the longest prefix of entries that has at most so many literals
abbrev pub prefix : ℕ → List NumberedClause → List NumberedClause
prefix room [] = []
prefix room (e ∷ es) = if nat_le (length e.lits) room then e ∷ prefix (room - length e.lits) es else []

-- a buffer takes 1,500 literals
abbrev pub most_literals : ℕ
most_literals = 1500

-- what is broadcast to all solvers of a job when these entries are exported
abbrev pub broadcast : List NumberedClause → List NumberedClause
broadcast exports = prefix most_literals (union exports)

-- all entries of the buffers of a tree's nodes, by index
abbrev pub entries_of : List (List NumberedClause) → List NumberedClause
entries_of buffers = flat_map (λ b. b) buffers

-- the place above one in a tree
abbrev pub above : ℕ → ℕ
above place = (place - 1) / 2

-- the buffers of a tree's places after the last one was merged into the one above it and cut there
abbrev pub climbed_once : List (List NumberedClause) → List (List NumberedClause)
climbed_once tops = slice_set (take (length tops - 1) tops) (above (length tops - 1)) (prefix most_literals (union (get_or tops (above (length tops - 1)) [] ++ get_or tops (length tops - 1) [])))

-- the same so many times
abbrev pub climbed : ℕ → List (List NumberedClause) → List (List NumberedClause)
climbed zero tops = tops
climbed (suc n) tops = climbed n (climbed_once tops)

-- what the root of a tree has once the buffers climbed it, where each solver began with the buffer of what it exports
abbrev pub climbed_root : List (List NumberedClause) → List NumberedClause
climbed_root exports = get_or (climbed (length exports - 1) (map broadcast exports)) 0 []
