-- Decisions by score, and restarts that keep what would be decided again.
use Rattle.std.specs.Prelude.{ℕ, Bool, not, ◌||◌, ◌==◌, List, [], ◌∷◌, length, filter, fold, take_while, Option, Some, None, is_some, if◌then◌else◌}
use Rattle.std.specs.List.{list_any}
use Rattle.mal_base.specs.Literals.{var_of}
use Rattle.mal_base.specs.declared.trail_entry.TrailEntry.{TrailEntry}
use Rattle.spec_node.specs.State.{Node}
use Rattle.spec_node.specs.Value.{has_value}
use Rattle.spec_node.specs.Cut.{cut}
use Rattle.spec_node.specs.Load.{counted}
use Rattle.spec_activity.specs.Rank.{precedes}
use Rattle.spec_activity.specs.Pace.{after_restart}
use Rattle.spec_guided.specs.State.{Guided}

-- whether a variable is decided before another
abbrev pub goes_first : Guided → ℕ → ℕ → Bool
goes_first s v w = precedes s.node.index s.guide.scores v w

-- of two variables the one that is decided first
abbrev pub first_of_two : Guided → ℕ → ℕ → ℕ
first_of_two s v w = if goes_first s w v then w else v

-- of variables the one that is decided first
abbrev pub first_among : Guided → List ℕ → Option ℕ
first_among s [] = None
first_among s (v ∷ vs) = Some (fold (first_of_two s) v vs)

-- the variables without a value
abbrev pub free : Node → List ℕ
free n = filter (λ v. not (has_value n.trail v)) (counted 1 n.variables)

-- the free variable that is decided first
abbrev pub first_free : Guided → Option ℕ
first_free s = first_among s (free s.node)

-- the decisions on a trail: one a level
abbrev pub decisions : List TrailEntry → List TrailEntry
decisions trail = filter (λ e. not (is_some e.reason)) trail

-- a decision stays where it is an assumption, or would come before the free variable that is next
abbrev pub stays : Guided → ℕ → TrailEntry → Bool
stays s next e = list_any (λ a. a == e.lit) s.node.assumptions || goes_first s (var_of e.lit) next

-- how many levels a restart keeps, in front of that variable
abbrev pub levels_kept : Guided → ℕ → ℕ
levels_kept s next = length (take_while (stays s next) (decisions s.node.trail))

-- a guided node after a restart
abbrev pub restarted : ℕ → Guided → Guided
restarted next s = record { node = cut (levels_kept s next) s.node; guide = record s.guide { pace = after_restart s.guide.pace } }
