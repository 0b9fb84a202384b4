-- The shorter form of a learned clause: the same walk, which also resolves away what the literals that are left imply
-- by a reason. And the same in words of the clause alone: go through the literals of the learned clause, the latest
-- first, and leave out each one whose reason has no other literals than the clause has and literals of level 0.
use Rattle.std.specs.Prelude.{ℕ, Bool, false, not, ◌&&◌, ◌||◌, ◌==◌, List, [], ◌∷◌, ◌++◌, reverse, if◌then◌else◌}
use Rattle.std.specs.List.{list_all}
use Rattle.std.specs.Option.{option_map_or}
use Rattle.mal_base.specs.Literals.{var_of}
use Rattle.mal_base.specs.NumberedClause.{NumberedClause}
use Rattle.mal_base.specs.declared.trail_entry.TrailEntry.{TrailEntry}
use Rattle.spec_node.specs.State.{Node}
use Rattle.spec_node.specs.Value.{has_value}
use Rattle.spec_node.specs.Sound.{level_in}
use Rattle.spec_learn.specs.Analysis.{Walk, Analysed, begun, vars_under, walked, clause_of, jump, top, analysed}
use Rattle.spec_learn.specs.Analysis.Aim.{Shortened}

-- the walk from the clause of a conflict to the shorter clause: no second pass, since when the walk comes to an entry
-- below the current level, the seen variables of the entries to come are the clause as it stands
abbrev pub shorter_walk : List NumberedClause → List TrailEntry → ℕ → Walk
shorter_walk clauses past id = walked (Shortened (top past) clauses) clauses past (begun (vars_under clauses id))

-- the shorter clause, with the reasons used and the clause of the conflict as its hints
abbrev pub shortened : List NumberedClause → List TrailEntry → ℕ → Analysed
shortened clauses past id = let w = shorter_walk clauses past id in record { lits = clause_of w.kept; hints = w.hints ++ id ∷ []; level = jump (top past) w.kept }

-- the clause of the first implication point of a conflict of a node, under each profile, and its shorter form
abbrev pub longer_analysis : ℕ → Node → Analysed
longer_analysis id n = analysed n.clauses (reverse n.trail) id

abbrev pub shorter_analysis : ℕ → Node → Analysed
shorter_analysis id n = shortened n.clauses (reverse n.trail) id

-- an entry of a clause can be left out where it is not of the current level and each other literal of its reason is in
-- the clause or has level 0
abbrev pub is_redundant : ℕ → List NumberedClause → List TrailEntry → TrailEntry → List TrailEntry → Bool
is_redundant level clauses past e others = not (e.level == level) && option_map_or (λ r. list_all (λ v. (v == var_of e.lit) || (has_value others v || level_in past v == 0)) (vars_under clauses r)) e.reason false

-- a clause after going through entries of it, the latest first: each is looked at in the clause as it then stands, that
-- is with those still ahead and those that stayed
abbrev pub gone_through : ℕ → List NumberedClause → List TrailEntry → List TrailEntry → List TrailEntry → List TrailEntry
gone_through level clauses past [] stayed = stayed
gone_through level clauses past (e ∷ ahead) stayed = gone_through level clauses past ahead (if is_redundant level clauses past e (ahead ++ stayed) then stayed else e ∷ stayed)
