use Rattle.std.specs.Prelude.{ℕ, ◌+◌, ◌-◌, min, Bool, nat_le, List, [], ◌∷◌, length, drop, take_while}
use Rattle.std.specs.Prelude.{slice_set}
use Rattle.mal_base.specs.Literals.{var_of, has_plus}
use Rattle.mal_base.specs.declared.trail_entry.TrailEntry.{TrailEntry}
use Rattle.spec_node.specs.State.{Node}

-- the entries up to this level
abbrev pub kept : ℕ → List TrailEntry → List TrailEntry
kept level trail = take_while (λ e. nat_le e.level level) trail

-- the entries after them
abbrev pub removed : ℕ → List TrailEntry → List TrailEntry
removed level trail = drop (length (kept level trail)) trail

-- the sign of each removed literal becomes its variable's phase
abbrev pub saved : List Bool → List TrailEntry → List Bool
saved phases [] = phases
saved phases (e ∷ es) = slice_set (saved phases es) (var_of e.lit - 1) (has_plus e.lit)

-- a node cut back to a level: phases are saved, and no more batches count as handled than the trail then has
abbrev pub cut : ℕ → Node → Node
cut level n = record n { trail = kept level n.trail; phases = saved n.phases (removed level n.trail); processed = min n.processed (length (kept level n.trail) + 1) }
