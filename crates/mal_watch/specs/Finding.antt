use Rattle.std.specs.Prelude.{ℕ, Bool, not, ◌&&◌, if◌then◌else◌, List, [], ◌∷◌, ◌++◌, filter, map, is_some}
use Rattle.std.specs.Option.{unwrap_or}
use Rattle.mal_base.specs.NumberedClause.{NumberedClause}
use Rattle.mal_base.specs.declared.trail_entry.TrailEntry.{TrailEntry}
use Rattle.spec_node.specs.Value.{left_literal}
use Rattle.spec_node.specs.Batch.{Progress, is_in_batch, after_literal}
use Rattle.spec_node.specs.Sound.{left_is_true}
use Rattle.mal_watch.specs.declared.found.Found.{Found}
use Rattle.mal_watch.specs.Watching.{clause_of}

-- a clause of the batch of a prefix is pending where the literal left of it is not true on the trail
abbrev pub is_pending : List TrailEntry → List TrailEntry → NumberedClause → Bool
is_pending prefix trail c = is_in_batch prefix c && not (left_is_true prefix trail c)

-- what is found of a clause: its number, and the literal left of it
abbrev pub found_of : List TrailEntry → NumberedClause → Found
found_of prefix c = record { id = c.id; lit = unwrap_or (left_literal prefix c.lits) 0 }

-- what is found of the pending clauses, by rising number
abbrev pub pending : List TrailEntry → List TrailEntry → List NumberedClause → List Found
pending prefix trail clauses = map (found_of prefix) (filter (is_pending prefix trail) clauses)

-- what is found of the clause of a watch
abbrev pub found_at : List TrailEntry → List TrailEntry → List NumberedClause → ℕ → List Found
found_at prefix trail watched watch = if is_pending prefix trail (clause_of watched watch) then found_of prefix (clause_of watched watch) ∷ [] else []

-- and of the clauses of watches, one after another
abbrev pub found_in : List TrailEntry → List TrailEntry → List NumberedClause → List ℕ → List Found
found_in prefix trail watched [] = []
found_in prefix trail watched (k ∷ ks) = found_at prefix trail watched k ++ found_in prefix trail watched ks

-- after what was found is handled, one after another, until one is the conflict
abbrev pub after_found : Progress → List Found → Progress
after_found p [] = p
after_found p (f ∷ fs) = after_found (if is_some p.conflict then p else after_literal p.trail f.id f.lit) fs
